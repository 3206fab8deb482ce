use Rattle.arrow2_model.proofs.Words256.{equal_low, unequal_high}
use Rattle.arrow2_composite.proofs.wide.I256PartialEq.eq.Goals as goal

pub returns-then-self-other : goal.returns-then-self-other
returns-then-self-other c =
    equal_low c.self.inside.high c.self.inside.low c.other.inside.high c.other.inside.low c.args.self.now c.args.other.now
    c.self.invariant.0 c.self.invariant.1 c.other.invariant.0 c.other.invariant.1 c.if-self-other.true c.self.view_is c.other.view_is

pub returns-else-self-other : goal.returns-else-self-other
returns-else-self-other c =
    unequal_high c.self.inside.high c.self.inside.low c.other.inside.high c.other.inside.low c.args.self.now c.args.other.now
    c.if-self-other.false c.self.view_is c.other.view_is
