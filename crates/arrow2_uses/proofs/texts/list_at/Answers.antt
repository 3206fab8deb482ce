use Rattle.std.proofs.Common.{◌≡◌, ◌∙◌, ◌-◌, get_or, ap, sym, arith, rules}
use Rattle.arrow2.specs.Binary.{binary_items}
use Rattle.arrow2.specs.Lists.{buffer_items, part}
use Rattle.arrow2.specs.Offsets.{start_of, lengths_of}
use Rattle.arrow2.proofs.NestedLists.{at-cut}
use Rattle.arrow2_uses.proofs.texts.list_at.Goals as goal

pub returns-clause-ok : goal.returns-clause-ok
returns-clause-ok c =
    let xs = binary_items c.args.texts.now in
    let offsets = buffer_items c.args.offsets.now in
    let at = c.start_end-start in
    let size : at.result.1 - at.result.0 ≡ get_or (lengths_of offsets) c.args.index 0 = omega (arith, at.ensures.end) in
    let copy : c.in_ok-clone.field-0 ≡ c.args.texts.now = search rules in
    c.sliced.ensures.items ∙ (ap (λ a. part (binary_items a) at.result.0 (at.result.1 - at.result.0)) copy
    ∙ (ap (part xs at.result.0) size ∙ (ap (λ s. part xs s (get_or (lengths_of offsets) c.args.index 0)) at.ensures.start ∙ sym (at-cut xs (start_of offsets) (lengths_of offsets) c.args.index c.requires.below))))
