use Rattle.std.proofs.Common.{◌+◌, arith}
use Rattle.std.proofs.lemmas.Str.Parse.{digit_at}
use Rattle.arrow2_script.proofs.DigitSteps.{of_none, digit_more, too_large}
use Rattle.arrow2_script.proofs.words.digits_number.Goals as goal

pub returns-then-not-is_ascii_digit-clause-none : goal.returns-then-not-is_ascii_digit-clause-none
returns-then-not-is_ascii_digit-clause-none c = λ p.
    let digit = digit_at c.args.digits.now c.loop-byte.byte-index p.0 c.loop-byte-test.true in
    let other = c.if-not-is_ascii_digit.ensures.cases in
    omega (arith, digit, other)

pub loop-byte-preserved : goal.loop-byte-preserved
loop-byte-preserved c =
    let kept = c.loop-byte.invariant in
    let more = digit_more c.args.digits.now c.loop-byte.byte-index c.loop-byte-test.true kept.all c.if-not-is_ascii_digit.ensures.bound in
    let digit = c.if-not-is_ascii_digit.ensures.cases in
    record { all = more.0; value = omega (arith, more.1, digit, kept.value, c.in_ok-checked_mul.ensures, c.in_ok-number.ensures); fits = omega (arith, c.in_ok-checked_mul.ensures, c.in_ok-number.ensures) }

pub returns-in_err-checked_mul-clause-none : goal.returns-in_err-checked_mul-clause-none
returns-in_err-checked_mul-clause-none c =
    let kept = c.loop-byte.invariant in
    let more = digit_more c.args.digits.now c.loop-byte.byte-index c.loop-byte-test.true kept.all c.if-not-is_ascii_digit.ensures.bound in
    let digit = c.if-not-is_ascii_digit.ensures.cases in
    of_none c.from_residual.result (λ p. too_large c.args.digits.now (c.loop-byte.byte-index + 1) (omega (arith, more.1, digit, kept.value, c.in_err-checked_mul.ensures)) p.1)

pub returns-in_err-number-clause-none : goal.returns-in_err-number-clause-none
returns-in_err-number-clause-none c =
    let kept = c.loop-byte.invariant in
    let more = digit_more c.args.digits.now c.loop-byte.byte-index c.loop-byte-test.true kept.all c.if-not-is_ascii_digit.ensures.bound in
    let digit = c.if-not-is_ascii_digit.ensures.cases in
    of_none c.from_residual-in_err-number.result (λ p. too_large c.args.digits.now (c.loop-byte.byte-index + 1) (omega (arith, more.1, digit, kept.value, c.in_ok-checked_mul.ensures, c.in_err-number.ensures)) p.1)
