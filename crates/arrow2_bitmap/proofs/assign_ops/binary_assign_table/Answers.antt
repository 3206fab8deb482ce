use Rattle.std.proofs.Common.{◌∙◌, ℕ, List, [], ◌∷◌, Bool, ap, length, take}
use Rattle.arrow2_model.specs.Lists.{bits, items_of}
use Rattle.arrow2_model.specs.Tables.{each}
use Rattle.arrow2_bitmap.proofs.Lanes.{shown_items, shown_length}
use Rattle.arrow2_bitmap.proofs.assign_ops.binary_assign_table.Goals as goal

pub returns-then-offset-eq0-clause-items : goal.returns-then-offset-eq0-clause-items
returns-then-offset-eq0-clause-items g c =
    let r = c.as_slice-offset.result in
    let b : List Bool = items_of c.args.rhs.now in
    let lr = shown_length r.0.now b r.1 r.2 c.as_slice-offset.ensures.inside c.as_slice-offset.ensures.items in
    let paired = ap (λ (n : ℕ). take n (bits r.0.now)) (c.requires.same_length ∙ lr) ∙ shown_items r.0.now b r.1 r.2 c.if-offset-eq0.true c.as_slice-offset.ensures.items in
    c.apply_binary_table.ensures.items
    ∙ (ap (λ m. each c.args.t (m.items ∷ take (length m.items) (bits r.0.now) ∷ [])) c.lhs.view_is ∙ ap (λ ys. each c.args.t (c.args.lhs.now.items ∷ ys ∷ [])) paired)
