use Rattle.std.proofs.Common.{true, refl, ap, ◌∙◌, ◌++◌, ◌/◌, codes, append_assoc}
use Rattle.std.proofs.Output.{has_written_styled_append, has_written_styled_of_eq}
use Rattle.arrow2_bits.specs.Digits.{four_digits}
use Rattle.arrow2_bits.proofs.Tables.{halves}
use Rattle.arrow2_bits.proofs.fmt.write_whole_byte.Goals as goal

pub returns : goal.returns
returns g c = λ flush ok.
    let x = c.args.byte in
    let prefix = c.in_ok-write_str.ensures.styled flush (refl {a = true}) in
    let high = has_written_styled_append _ _ _ _ _ _ prefix (c.in_ok-write_str-2.ensures.styled prefix.flush (refl {a = true})) in
    let low = has_written_styled_append _ _ _ _ _ _ high (c.write_str-3.ensures.styled high.flush ok) in
    has_written_styled_of_eq _ _ _ _ _
    (append_assoc (codes "0b") c.digits.result.now c.digits-2.result.now ∙ (ap (λ t. codes "0b" ++ (t ++ c.digits-2.result.now)) c.digits.ensures ∙ (ap (λ t. codes "0b" ++ (four_digits (x / 16) ++ t)) c.digits-2.ensures ∙ halves x)))
    low
