use Rattle.std.proofs.Common.{◌≡◌, ap, List, map, arith, ℤ, Some, IsNone}
use Rattle.arrow2_offset.specs.Offsets.{AreOffsets}
use Rattle.arrow2_offset.specs.Failures.{first_broken_rule}
use Rattle.arrow2_offset.specs.declared.check.BrokenRule.{BrokenRule}
use Rattle.arrow2_offset.specs.declared.check.BrokenRule.TheVariants.{Empty, Negative, Falling}
use Rattle.arrow2_ffi.specs.Rules.{rule_code, ReportsBrokenRule}
use Rattle.arrow2_ffi.proofs.offsets.calls.error_code.Goals as goal

-- the code of the rule that is broken first determines it
states : (rule : BrokenRule) (xs : List ℤ) → (AreOffsets xs → IsNone (Some rule)) → rule ≡ first_broken_rule xs → ReportsBrokenRule (rule_code rule) xs
states Empty xs accepted e = record { broken = λ are. let no = accepted are in cc; rule = ap rule_code e; other = λ e. omega (arith, e) }
states Negative xs accepted e = record { broken = λ are. let no = accepted are in cc; rule = ap rule_code e; other = λ e. omega (arith, e) }
states Falling xs accepted e = record { broken = λ are. let no = accepted are in cc; rule = ap rule_code e; other = λ e. omega (arith, e) }

pub returns-in-Some-Empty-clause-some : goal.returns-in-Some-Empty-clause-some
returns-in-Some-Empty-clause-some g c = states Empty (map g.O.Number.value c.args.offsets.now) c.in-Some-Empty.ensures.accepted (rw c.in-Some-Empty.field-0-is at c.in-Some-Empty.ensures.broken)

pub returns-in-Some-Negative-clause-some : goal.returns-in-Some-Negative-clause-some
returns-in-Some-Negative-clause-some g c = states Negative (map g.O.Number.value c.args.offsets.now) c.in-Some-Negative.ensures.accepted (rw c.in-Some-Negative.field-0-is at c.in-Some-Negative.ensures.broken)

pub returns-in-Some-Falling-clause-some : goal.returns-in-Some-Falling-clause-some
returns-in-Some-Falling-clause-some g c = states Falling (map g.O.Number.value c.args.offsets.now) c.in-Some-Falling.ensures.accepted (rw c.in-Some-Falling.field-0-is at c.in-Some-Falling.ensures.broken)
