use Rattle.std.proofs.Common.{◌≡◌, ◌+◌, ◌-◌, ◌*◌, ◌<◌, ◌≤◌, ◌++◌, ◌∷◌, [], ℕ, zero, suc, length, get_or, min, true, refl, sym, ap, subst, ◌∙◌, arith, codes, append_assoc}
use Rattle.std.specs.Fmt.{HasWrittenStyled}
use Rattle.std.proofs.Output.{has_written_styled_append, has_written_styled_of_eq}
use Rattle.arrow2_model.proofs.TextWrites.{plain_written}
use Rattle.arrow2_model.specs.Shown.{shown_byte}
use Rattle.arrow2_model.proofs.Shown.{shown_byte_alone, shown_front, shown_front_none, shown_front_first, shown_front_more, shown_is}
use Rattle.arrow2_bits.proofs.fmt.fmt.Goals as goal
use Rattle.arrow2_bits.proofs.fmt.fmt.Goals.{then-left-len+in_ok-write_str-2, else-left-len, else-loop-byte-test, then-loop-byte-test+then-left-eq0}

pub loop-byte-init : goal.loop-byte-init
loop-byte-init g c = record {
  position = omega arith;
  rest = omega arith;
  each = omega arith;
  last = omega arith;
  text = λ flush.
      has_written_styled_of_eq _ _ _ _ _ (shown_front_none c.args.bytes.now c.args.offset c.args.len)
      (c.in_ok-write_str.ensures.styled flush (refl {a = true}));
}

pub loop-byte-preserved : goal.loop-byte-preserved
loop-byte-preserved g c =
    let a = c.args in
    let j = c.loop-byte.byte-index in
    let start = c.loop-byte.start in
    let before = c.loop-byte.invariant in
    let took = g.W.Write.write_str_gives in
    let front = shown_front a.bytes.now a.offset a.len j in
    let here : c.min-here.result ≡ min (a.len - (8 * j - a.offset)) (8 - start) = c.min-here.ensures ∙ ap (λ n. min n (8 - start)) before.rest in
    let alone = shown_byte (get_or a.bytes.now j 0 ∷ []) start c.min-here.result 0 in
    let byte = shown_byte_alone a.bytes.now (get_or a.bytes.now j 0) a.offset a.len j start c.min-here.result c.loop-byte-test.true refl c.requires.offset before.position here in
    record {
      position = omega arith;
      rest = omega arith;
      each = omega arith;
      last = omega arith;
      text = λ flush.
          let so_far = before.text flush in
          elim c.if-left-len.branch [
            | then-left-len+in_ok-write_str-2 w ↦
                let written = has_written_styled_append _ _ _ _ _ _ so_far (w.in_ok-write_str-2.ensures.styled so_far.flush (refl {a = true})) in
                let comma = subst (λ x. HasWrittenStyled took a.f.now (front ++ codes ", ") x) (sym w.f-is) written in
                let more = shown_front_more a.bytes.now a.offset a.len j (j + 1) (omega (arith, w.if-left-len.true)) refl in
                has_written_styled_of_eq _ _ _ _ _
                (append_assoc front (codes ", ") alone ∙ (ap (λ t. front ++ (codes ", " ++ t)) byte ∙ sym more))
                (has_written_styled_append _ _ _ _ _ _ comma (c.in_ok-write_byte.ensures comma.flush (refl {a = true})))
            | else-left-len w ↦
                let same = subst (λ x. HasWrittenStyled took a.f.now front x) (sym w.f-is) so_far in
                let first = shown_front_first a.bytes.now a.offset a.len j (j + 1) (omega (arith, w.if-left-len.false)) refl in
                has_written_styled_of_eq _ _ _ _ _
                (ap (λ t. front ++ t) byte ∙ sym first)
                (has_written_styled_append _ _ _ _ _ _ same (c.in_ok-write_byte.ensures same.flush (refl {a = true})))
          ];
    }

-- no bit is left after the last byte
none_left : (n offset len j : ℕ) → (0 < len → offset + len ≤ 8 * n) → n ≤ j → len ≤ 8 * j - offset
none_left n offset zero j inside end = omega arith
none_left n offset (suc len) j inside end = omega (arith, inside (omega arith))

pub returns-clause-styled : goal.returns-clause-styled
returns-clause-styled g c = λ flush ok.
    let a = c.args in
    let j = c.loop-byte.byte-index in
    let before = c.loop-byte.invariant in
    let so_far = before.text flush in
    let all : a.len ≤ 8 * j - a.offset = elim c.loop-byte-test.branch [
      | else-loop-byte-test w ↦ none_left (length a.bytes.now) a.offset a.len j c.requires.inside w.loop-byte-test.false
      | then-loop-byte-test+then-left-eq0 w ↦ omega (arith, w.if-left-eq0.true)
    ] in
    has_written_styled_of_eq _ _ _ _ _ (sym (shown_is a.bytes.now a.offset a.len j c.requires.offset c.loop-byte.auto.byte-index-end before.each before.last all))
    (has_written_styled_append _ _ _ _ _ _ so_far (c.write_str-2.ensures.styled so_far.flush ok))

pub returns-clause-writes : goal.returns-clause-writes
returns-clause-writes g c = λ plain ok. plain_written _ _ _ _ plain (returns-clause-styled g c plain.flush ok)
