use Rattle.std.proofs.Common.{sym, arith}
use Rattle.arrow2_script.proofs.WordLemmas.{number_of-empty, number_of-leading_zero, number_of-digits}
use Rattle.arrow2_script.proofs.words.number.Goals as goal
use Rattle.arrow2_script.proofs.words.number.Goals.{then-is_empty-via-then-is_empty, then-is_empty-via-else-is_empty+then-has_leading_zero}

pub returns-then-is_empty : goal.returns-then-is_empty
returns-then-is_empty c = elim c.then-is_empty.branch [
  | then-is_empty-via-then-is_empty w ↦ let none = w.if-is_empty.ensures in sym (number_of-empty c.args.word.now (grind (arith, none)))
  | then-is_empty-via-else-is_empty+then-has_leading_zero w ↦ let zeros = w.if-has_leading_zero.ensures.0 search in sym (number_of-leading_zero c.args.word.now zeros.0 zeros.1)
]

pub returns : goal.returns
returns c =
    let some = c.if-is_empty.ensures in
    number_of-digits c.args.word.now c.digits_number.result (grind (arith, some)) (λ zeros. let e = c.if-has_leading_zero.ensures.1 zeros in cc) c.digits_number.ensures.some c.digits_number.ensures.fits c.digits_number.ensures.none
