use Rattle.std.proofs.Common.{◌≡◌, Bool, true, false, refl, sym, nat_eq, Decides}
use Rattle.std.specs.Cmp.Lexicographic.{bytes_decides, pointwise}
use Rattle.std.specs.Option.{option_eq}
use Rattle.arrow2_validity.proofs.Alike.{lists_Decides}
use Rattle.arrow2_text.specs.Binary.{binary_items}
use Rattle.arrow2_text.proofs.equal.same_slots.Goals as goal

-- two tests of the same fact agree
agree : {P : Type 0} (r s : Bool) → Decides r P → Decides s P → r ≡ s
agree true true d e = refl
agree true false d e = sym (e.1 (d.0 refl))
agree false true d e = d.1 (e.0 refl)
agree false false d e = refl

pub returns-clause-equality : goal.returns-clause-equality
returns-clause-equality g c =
    let xs = binary_items c.args.slots.now in
    let ys = binary_items c.args.others.now in
    let stated = pointwise (option_eq (pointwise nat_eq)) xs ys in
    agree c.same_items.result stated c.same_items.ensures (lists_Decides (pointwise nat_eq) bytes_decides xs ys stated refl)
