use Rattle.std.proofs.Common.{◌≡◌, ◌∙◌, ◌⊎◌, ap, sym, inl, inr, true, replicate, length, rules}
use Rattle.arrow2_model.specs.Lists.{items_of}
use Rattle.arrow2_validity.specs.OptionalValidity.{valid_items}
use Rattle.arrow2_walks.specs.Zipped.{zipped}
use Rattle.arrow2_text.specs.Binary.{binary_items, binary_values}
use Rattle.std.specs.Cmp.{booleans_Decides}
use Rattle.std.proofs.lemmas.Slice.Eq.{slice_eq-Decides}
use Rattle.arrow2_text.proofs.SameSlots.{items-alike, validities-differ, whole-alike}
use Rattle.arrow2_text.proofs.slots.Slots.same_items.Goals as goal
use Rattle.arrow2_text.proofs.slots.Slots.same_items.Goals.{in_default-via-in-Some+in_default, in_default-via-in_default}

pub returns-then-eq : goal.returns-then-eq
returns-then-eq g c =
    let xs = binary_values c.args.self.now in
    let ys = binary_values c.args.other.now in
    let found = c.in-Some-Some in
    let alike = items-alike xs ys (items_of found.valid.now) (items_of found.others.now) (binary_items c.args.self.now) (binary_items c.args.other.now) (ap (zipped xs) found.ensures.items ∙ c.validity.ensures.zipped) (ap (zipped ys) found.ensures'.items ∙ c.validity-2.ensures.zipped) ((slice_eq-Decides booleans_Decides (items_of found.valid.now) (items_of found.others.now) c.eq.result (search rules)).0 c.if-eq.true) in
    (λ yes. alike.0 (c.same_runs.ensures.0 yes), λ same. c.same_runs.ensures.1 (alike.1 same))

pub returns-else-eq : goal.returns-else-eq
returns-else-eq g c =
    let found = c.in-Some-Some in
    let eq = slice_eq-Decides booleans_Decides (items_of found.valid.now) (items_of found.others.now) c.eq.result (search rules) in
    let differ : items_of found.valid.now ≡ items_of found.others.now → ⊥ = λ same. let yes = eq.1 same in cc in
    (λ yes. cc, λ same. absurd (validities-differ (items_of found.valid.now) (items_of found.others.now) (binary_items c.args.self.now) (binary_items c.args.other.now) (found.ensures.items ∙ c.validity.ensures.known) (found.ensures'.items ∙ c.validity-2.ensures.known) differ same))

pub returns-in_default : goal.returns-in_default
returns-in_default g c =
    let xs = binary_values c.args.self.now in
    let ys = binary_values c.args.other.now in
    let mine = valid_items c.validity.result.now in
    let others = valid_items c.validity-2.result.now in
    let none : (mine ≡ replicate (length mine) true) ⊎ (others ≡ replicate (length others) true) = elim c.in_default.branch [
      | in_default-via-in-Some+in_default w ↦ inr w.in_default.ensures'.items
      | in_default-via-in_default w ↦ inl w.in_default.ensures.items
    ] in
    let nulls = sym c.null_count.ensures ∙ (c.if-null_count.false ∙ c.null_count-else-count-len.ensures) in
    let alike = whole-alike xs ys mine others (binary_items c.args.self.now) (binary_items c.args.other.now) c.len-count.result c.len-count.ensures.values (c.if-count-len.false ∙ c.len.ensures.values) (c.len-count.ensures.validity ∙ ap (λ v. length (valid_items v)) (sym c.validity.ensures.value)) (c.if-count-len.false ∙ (c.len.ensures.validity ∙ ap (λ v. length (valid_items v)) (sym c.validity-2.ensures.value))) c.validity.ensures.zipped c.validity-2.ensures.zipped nulls none in
    (λ yes. alike.0 (c.same_values.ensures.0 yes), λ same. c.same_values.ensures.1 (alike.1 same))
