use Rattle.std.proofs.Common.{◌∙◌, ap, sym}
use Rattle.arrow2_model.specs.Digits.{digits}
use Rattle.arrow2_model.proofs.Words256.{joined_digits, words_read_back}
use Rattle.arrow2_composite.proofs.wide.I256NativeType.to_le_bytes.Goals as goal

pub returns-clause-digits : goal.returns-clause-digits
returns-clause-digits c =
    joined_digits c.self.inside.high c.self.inside.low c.args.self.now c.to_le_bytes-low.result c.to_le_bytes-high.result c.join.result
    c.self.view_is c.to_le_bytes-low.ensures.digits c.to_le_bytes-high.ensures.digits c.join.ensures

pub returns-clause-read_back : goal.returns-clause-read_back
returns-clause-read_back c =
    words_read_back c.self.inside.high c.self.inside.low c.join.result c.self.invariant.0 c.self.invariant.1
    (returns-clause-digits c ∙ ap (digits 32) (sym c.self.view_is)) ∙ c.self.view_is
