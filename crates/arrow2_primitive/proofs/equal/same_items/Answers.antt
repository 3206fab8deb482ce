use Rattle.std.proofs.Common.{◌≡◌, ◌∙◌, length, ap, sym}
use Rattle.std.specs.Cmp.Lexicographic.{pointwise}
use Rattle.arrow2_model.specs.Lists.{buffer_items}
use Rattle.arrow2_validity.specs.OptionalValidity.{valid_items}
use Rattle.arrow2_validity.proofs.Alike.{compared-some}
use Rattle.arrow2_validity.proofs.Slots.{no-null}
use Rattle.arrow2_primitive.proofs.equal.same_items.Goals as goal

pub returns-then-null_count-eq0-2 : goal.returns-then-null_count-eq0-2
returns-then-null_count-eq0-2 g c =
    let E = g.T.PartialEq.eq in
    let a = c.args.array.now in
    let b = c.args.other.now in
    let xs = buffer_items a.values in
    let ys = buffer_items b.values in
    let held = c.values.ensures in
    let others = c.values-then-null_count-eq0-2.ensures in
    let items = no-null xs (valid_items a.validity) (sym held.len ∙ ap (λ v. length (buffer_items v)) held.value) (sym c.null_count.ensures ∙ c.if-null_count-eq0.true) in
    let more = no-null ys (valid_items b.validity) (sym others.len ∙ ap (λ v. length (buffer_items v)) others.value) (sym c.null_count-then-null_count-eq0.ensures ∙ c.if-null_count-eq0-2.true) in
    let same : c.eq.result ≡ pointwise E xs ys =
    c.eq.ensures ∙ (ap (λ v. pointwise E (buffer_items v) (buffer_items c.values-then-null_count-eq0-2.result.now)) held.value ∙ ap (λ v. pointwise E xs (buffer_items v)) others.value) in
    rw (items, more) (same ∙ compared-some E xs ys)
