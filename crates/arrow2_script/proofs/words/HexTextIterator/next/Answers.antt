use Rattle.std.proofs.Common.{◌∙◌, sym}
use Rattle.arrow2_script.proofs.HexLemmas.{first_byte}
use Rattle.arrow2_script.proofs.words.HexTextIterator.next.Goals as goal

pub returns-clause-steps : goal.returns-clause-steps
returns-clause-steps c =
    let digits = c.in_ok-high.ensures.cases.0 in
    let following = c.in_ok-low.ensures.cases.0 in
    let high = c.hex_digit_value.ensures.value in
    let low = c.hex_digit_value-2.ensures.value in
    sym c.self.view_is ∙ first_byte _ _ _ _ _ _ _ digits following high low
