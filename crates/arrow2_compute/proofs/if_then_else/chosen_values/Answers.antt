use Rattle.std.proofs.Common.{◌∙◌, ◌+◌, ◌<◌, ◌++◌, [], ◌∷◌, length, ap, sym, arith, if◌then◌else◌}
use Rattle.arrow2_model.specs.Lists.{items_of}
use Rattle.arrow2_compute.proofs.Choices.{chosen-read}
use Rattle.arrow2_compute.proofs.if_then_else.chosen_values.Goals as goal

pub loop-position-preserved : goal.loop-position-preserved
loop-position-preserved g c =
    let ms = items_of c.args.mask.now in
    let position = c.loop-position.position in
    let before = c.loop-position.invariant in
    let left = c.index-lhs-position.result in
    let right = c.index-rhs-position.result in
    let less : position < length ms = omega (arith, c.loop-position-test.true, c.len-position-end.ensures.items) in
    let is = c.either.ensures ∙ ap (λ b. if b then left else right) c.get_bit.ensures in
    let more = chosen-read ms c.args.lhs.now c.args.rhs.now position left right c.either.result less (omega (arith, less, c.requires.left)) (omega (arith, less, c.requires.right)) c.index-lhs-position.is c.index-rhs-position.is is in
    record {
      values = c.push_reserved.ensures.items ∙ (ap (λ l. l ++ c.either.result ∷ []) before.values ∙ sym more);
      len = c.push_reserved.ensures.len ∙ ap (λ n. n + 1) before.len;
      spare = omega (arith, c.push_reserved.ensures.capacity, before.spare);
    }
