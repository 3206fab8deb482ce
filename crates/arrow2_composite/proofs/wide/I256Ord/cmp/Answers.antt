use Rattle.std.proofs.Common.{◌∙◌, ap, of_z}
use Rattle.std.specs.Int.{w128}
use Rattle.std.proofs.lemmas.Int.{to_z-of_z}
use Rattle.arrow2_model.proofs.Words256.{ordered}
use Rattle.arrow2_composite.proofs.wide.I256Ord.cmp.Goals as goal

pub returns : goal.returns
returns c =
    ordered c.self.inside.high c.self.inside.low c.other.inside.high c.other.inside.low c.args.self.now c.args.other.now
    c.cast_unsigned-low.result c.cast_unsigned.result c.cmp.result c.cmp-2.result c.then.result
    c.self.invariant.1 c.other.invariant.1 c.self.view_is c.other.view_is
    (c.cast_unsigned-low.ensures ∙ ap (of_z w128) (to_z-of_z w128 c.self.inside.low c.self.invariant.1))
    (c.cast_unsigned.ensures ∙ ap (of_z w128) (to_z-of_z w128 c.other.inside.low c.other.invariant.1))
    c.cmp.ensures c.cmp-2.ensures c.then.ensures
