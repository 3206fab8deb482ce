use Rattle.std.proofs.Common.{◌≡◌, ◌∙◌}
use Rattle.arrow2_text.proofs.SlotLists.{whole-again}
use Rattle.arrow2_text.proofs.slots.thaw.Goals as goal

pub returns-in_ok-values-in-Left-2-clause-ok : goal.returns-in_ok-values-in-Left-2-clause-ok
returns-in_ok-values-in-Left-2-clause-ok g c =
    let held = c.in-Right.ensures in
    let count = c.len.ensures in
    let values : c.in_ok-values-in-Left-2.values ≡ c.args.values =
    c.in_ok-values-in-Left-2.ensures ∙ whole-again c.args.values c.in-Right.values.items c.len.result held.items held.whole count.items count.value count.inside in
    let validity = rw c.in-Left-2.is at c.in_ok-validity.ensures.ok in
    c.new-in-Left-2.ensures ∙ (λ i. record { data_type = c.args.data_type.value; offsets = c.in_ok-offsets-in-Left-2.ensures.0 i; values = values i; validity = validity i })
