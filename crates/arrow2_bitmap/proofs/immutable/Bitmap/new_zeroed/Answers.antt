use Rattle.std.proofs.Common.{◌≡◌, ◌∙◌, List, Bool, IfOk, subst, ap, take, replicate, false, ℕ, ◌*◌, not, arith, cond}
use Rattle.std.proofs.lemmas.List.Folds.{sum_by-replicate}
use Rattle.arrow2_model.specs.Lists.{bits, falses, items_of}
use Rattle.arrow2_model.proofs.Bytes.{front-zeros}
use Rattle.arrow2_bitmap.proofs.immutable.Bitmap.new_zeroed.Goals as goal

falses-replicate : (n : ℕ) → falses (replicate n false) ≡ n * 1
falses-replicate n = sum_by-replicate (λ x. cond (not x) 1 0) n false

pub from_counted-requires-clause-counted : goal.from_counted-requires-clause-counted
from_counted-requires-clause-counted c =
    let zeros = c.in_ok-zeros.ensures.items_if_clones_equal (λ y same. same) in
    let items = ap (λ s. take c.args.len (bits s)) zeros ∙ front-zeros c.bytes_for.result c.args.len (omega (arith, c.bytes_for.ensures)) in
    let count = ap falses items ∙ falses-replicate c.args.len in
    omega (arith, count)

pub returns-clause-items : goal.returns-clause-items
returns-clause-items c =
    let zeros = c.in_ok-zeros.ensures.items_if_clones_equal (λ y same. same) in
    let items = ap (λ s. take c.args.len (bits s)) zeros ∙ front-zeros c.bytes_for.result c.args.len (omega (arith, c.bytes_for.ensures)) in
    subst (λ (t : List Bool). IfOk c.from_counted.result (λ b. items_of b ≡ t)) items c.from_counted.ensures.items
