use Rattle.std.proofs.Common.{◌∷◌, [], ◌-◌, ◌++◌, true, refl, sym, ap, ◌∙◌, arith}
use Rattle.std.proofs.Output.{has_written_styled_append, has_written_styled_of_eq}
use Rattle.std.specs.Char.{encode_utf8}
use Rattle.arrow2_model.specs.Lists.{bit}
use Rattle.arrow2_model.specs.Shown.{is_shown, bit_character}
use Rattle.arrow2_model.proofs.Shown.{shown_bits, shown_bits_none, shown_bits_more, shown_bits_all, encode_bit_character, bit_alone}
use Rattle.arrow2_bits.proofs.fmt.write_byte.Goals as goal

pub loop-i-init : goal.loop-i-init
loop-i-init g c = λ flush.
    has_written_styled_of_eq _ _ _ _ _ (shown_bits_none (c.args.byte ∷ []) c.args.start c.args.len 8 0 refl)
    (c.in_ok-write_str.ensures.styled flush (refl {a = true}))

pub loop-i-preserved : goal.loop-i-preserved
loop-i-preserved g c = λ flush.
    let a = c.args in
    let i = c.loop-i.i in
    let so_far = c.loop-i.invariant flush in
    let shows = is_shown a.start a.len (i - 1) in
    let character = ap encode_utf8 c.character.ensures ∙ encode_bit_character shows (bit a.byte (i - 1)) ∙ ap (λ v. bit_character shows v ∷ []) (sym (bit_alone a.byte (i - 1) (omega arith))) in
    has_written_styled_of_eq _ _ _ _ _
    (ap (λ t. shown_bits (a.byte ∷ []) a.start a.len i (8 - i) ++ t) character ∙ sym (shown_bits_more (a.byte ∷ []) a.start a.len (i - 1) i (8 - i) (8 - (i - 1)) (omega arith) (omega arith)))
    (has_written_styled_append _ _ _ _ _ _ so_far (c.in_ok-write_char.ensures.styled so_far.flush (refl {a = true})))

pub returns : goal.returns
returns g c = λ flush ok.
    has_written_styled_of_eq _ _ _ _ _ (shown_bits_all c.args.byte c.args.start c.args.len c.loop-i.i (8 - c.loop-i.i) (omega arith) (omega arith))
    (c.loop-i.invariant flush)
