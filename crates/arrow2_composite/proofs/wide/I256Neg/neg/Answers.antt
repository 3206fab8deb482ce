use Rattle.arrow2_model.proofs.Words256.{negation_fits, negated_then, negated_else}
use Rattle.arrow2_composite.proofs.wide.I256Neg.neg.Goals as goal

pub overflow_sub-self-inside : goal.overflow_sub-self-inside
overflow_sub-self-inside c = negation_fits c.self.inside.high c.self.inside.low c.args.self c.self.invariant.0 c.self.invariant.1 c.if-self-eq0.true c.self.view_is c.requires

pub returns-then-self-eq0 : goal.returns-then-self-eq0
returns-then-self-eq0 c = negated_then c.self.inside.high c.self.inside.low c.args.self c.self.invariant.0 c.self.invariant.1 c.if-self-eq0.true c.self.view_is c.requires

pub returns-else-self-eq0 : goal.returns-else-self-eq0
returns-else-self-eq0 c =
    negated_else c.self.inside.high c.self.inside.low c.wrapping_neg.result c.args.self
    c.self.invariant.0 c.self.invariant.1 (record { sfits = c.wrapping_neg.type_inv }) c.if-self-eq0.false c.wrapping_neg.ensures c.self.view_is
