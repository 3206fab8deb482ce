use Rattle.std.proofs.Common.{◌≡◌, ◌∙◌, List, Bool, not, length, replicate, ap}
use Rattle.std.proofs.lemmas.Result.{IfOk-weaker}
use Rattle.std.specs.Bool.{beq}
use Rattle.arrow2_model.specs.Lists.{items_of}
use Rattle.arrow2_bitmap.proofs.Constant.{xor_alike}
use Rattle.arrow2_bitmap.proofs.bitmap_ops.xor.Goals as goal

pub returns-in-Some-Some-clause-items : goal.returns-in-Some-Some-clause-items
returns-in-Some-Some-clause-items c =
    let a : List Bool = items_of c.args.lhs.now in
    let b : List Bool = items_of c.args.rhs.now in
    let v = c.in-Some-Some.left in
    let u = c.in-Some-Some.right in
    let left : a ≡ replicate (length a) v = rw c.in-Some-Some.is-0 at c.value_of_all-left.ensures in
    let right : b ≡ replicate (length b) u = rw c.in-Some-Some.is-1 at c.value_of_all-right.ensures in
    IfOk-weaker c.constant_bitmap.result _ _ (λ m e. e ∙ (ap (λ n. replicate n (not (beq v u))) c.len.ensures.items ∙ xor_alike a b v u c.requires.same_length left right)) c.constant_bitmap.ensures.items
