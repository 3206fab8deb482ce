use Rattle.std.proofs.Common.{◌≡◌, ◌∙◌, ◌++◌, ◌+◌, ◌<◌, ℕ, List, length, take, get_or, None, true, refl, sym, ap, subst, arith, append_assoc, take_all, codes}
use Rattle.std.specs.Fmt.{HasWrittenStyled}
use Rattle.std.proofs.Output.{has_written_styled_append, has_written_styled_of_eq}
use Rattle.arrow2_model.proofs.TextWrites.{plain_written}
use Rattle.arrow2_array.specs.ArrayTexts.{item_word, comma_list}
use Rattle.arrow2_array.specs.Items.{boolean_items}
use Rattle.arrow2_array.proofs.ArrayTexts.{listed-none, listed-first, listed-more}
use Rattle.arrow2_array.proofs.fmt.write_array.Goals as goal
use Rattle.arrow2_array.proofs.fmt.write_array.Goals.{then-index-gt0+in_ok-write_str-2, else-index-gt0}

pub loop-index-init : goal.loop-index-init
unfolding comma_list
loop-index-init g c = λ flush. c.in_ok-write_str.ensures.styled flush (refl {a = true})

pub loop-index-preserved : goal.loop-index-preserved
loop-index-preserved g c = λ flush.
    let xs = boolean_items c.args.array.now in
    let i = c.loop-index.index in
    let took = g.W.Write.write_str_gives in
    let so_far = c.loop-index.invariant flush in
    let head = codes "BooleanArray[" in
    let before = comma_list (take i xs) in
    let said : List ℕ = item_word (get_or xs i None) in
    let word = c.word.ensures ∙ ap item_word c.get.ensures in
    let below : i < length xs = omega (arith, c.loop-index-test.true, c.len-index-end.ensures) in
    elim c.if-index-gt0.branch [
      | then-index-gt0+in_ok-write_str-2 w ↦
          let written = has_written_styled_append _ _ _ _ _ _ so_far (w.in_ok-write_str-2.ensures.styled so_far.flush (refl {a = true})) in
          let comma = subst (λ x. HasWrittenStyled took c.args.f.now ((head ++ before) ++ codes ", ") x) (sym w.f-is) written in
          let more = listed-more xs i (i + 1) (omega (arith, w.if-index-gt0.true)) (omega arith) below in
          has_written_styled_of_eq _ _ _ _ _
          (ap (λ t. ((head ++ before) ++ codes ", ") ++ t) word ∙ append_assoc (head ++ before) (codes ", ") said ∙ append_assoc head before (codes ", " ++ said) ∙ ap (λ t. head ++ t) (sym more))
          (has_written_styled_append _ _ _ _ _ _ comma (c.in_ok-write_str-3.ensures.styled comma.flush (refl {a = true})))
      | else-index-gt0 w ↦
          let same = subst (λ x. HasWrittenStyled took c.args.f.now (head ++ before) x) (sym w.f-is) so_far in
          let none : i ≡ 0 = omega (arith, w.if-index-gt0.false) in
          let first = listed-first xs (i + 1) (omega (arith, none)) (omega (arith, below)) in
          has_written_styled_of_eq _ _ _ _ _
          (ap (λ t. (head ++ before) ++ t) word ∙ append_assoc head before said ∙ ap (λ t. head ++ t) (listed-none xs i said none ∙ (ap (λ k. item_word (get_or xs k None)) none ∙ sym first)))
          (has_written_styled_append _ _ _ _ _ _ same (c.in_ok-write_str-3.ensures.styled same.flush (refl {a = true})))
    ]

pub returns-clause-styled : goal.returns-clause-styled
returns-clause-styled g c = λ flush ok.
    let xs = boolean_items c.args.array.now in
    let so_far = c.loop-index.invariant flush in
    let all : take c.loop-index.index xs ≡ xs = take_all c.loop-index.index xs (omega (arith, c.loop-index-test.false, c.len-index-end.ensures)) in
    has_written_styled_of_eq _ _ _ _ _ (ap (λ t. (codes "BooleanArray[" ++ comma_list t) ++ codes "]") all ∙ append_assoc (codes "BooleanArray[") (comma_list xs) (codes "]"))
    (has_written_styled_append _ _ _ _ _ _ so_far (c.write_str-2.ensures.styled so_far.flush ok))

pub returns-clause-writes : goal.returns-clause-writes
returns-clause-writes g c = λ plain ok. plain_written _ _ _ _ plain (returns-clause-styled g c plain.flush ok)
