use Rattle.std.proofs.Common.{◌∙◌, sym, ap, arith, ◌∷◌, [], length}
use Rattle.arrow2.specs.Lists.{words}
use Rattle.arrow2_machine.proofs.WordLemmas.{next_word, last_word, no_word, listed_next, listed_last, listed_none, listed_end}
use Rattle.arrow2_machine.proofs.replies.write_words.Goals.{then-rest-gt0+in_ok-write_listed-2, else-rest-gt0+then-first+in_ok-extend_from_slice, else-rest-gt0+else-first}
use Rattle.arrow2_machine.proofs.replies.write_words.Goals as goal

pub loop-word-preserved : goal.loop-word-preserved
loop-word-preserved g c =
    let w = g.T.BitChunk.WIDTH in
    let left = c.next.new.self.items in
    let step = c.in-Some.ensures.steps in
    let said = c.requires.number c.in-Some.word c.number.result c.number.ensures in
    let first = next_word w c.loop-word.chunks.items left _ (omega (arith, g.met.T.BitChunk.width_bounds.0)) step.items step.word ∙ ap (λ n. n ∷ words w left) (sym said) in
    listed_next c.loop-word.out.items _ c.loop-word.first c.number.result _ _ first c.in_ok-write_listed.ensures ∙ c.loop-word.invariant

pub returns : goal.returns
returns g c =
    let w = g.T.BitChunk.WIDTH in
    let items = c.loop-word.chunks.items in
    let steps = c.in_default.ensures.steps in
    let rest = c.remainder_len-rest in
    let following = steps.rest ∙ steps.items in
    let count = rest.ensures.rest ∙ ap length following in
    elim c.if-rest-gt0.branch [
      | then-rest-gt0+in_ok-write_listed-2 b ↦
          let one = last_word w rest.result _ _ items _ b.if-rest-gt0.true rest.ensures.short rest.ensures.rest following b.masked-last.ensures.fits b.masked-last.ensures.bits b.remainder.ensures.rest in
          let said = c.requires.number b.masked-last.result b.number-then-rest-gt0.result b.number-then-rest-gt0.ensures in
          ap (λ o. o.items) b.out-is ∙ listed_last c.loop-word.out.items _ c.loop-word.first b.number-then-rest-gt0.result _ (one ∙ ap (λ n. n ∷ []) (sym said)) b.in_ok-write_listed-2.ensures ∙ c.loop-word.invariant
      | else-rest-gt0+then-first+in_ok-extend_from_slice b ↦
          let none = no_word w items (omega (arith, count, b.if-rest-gt0.false)) in
          ap (λ o. o.items) b.out-is ∙ b.in_ok-extend_from_slice.ensures.items ∙ listed_none c.loop-word.out.items _ none ∙ rw b.if-first.true at c.loop-word.invariant
      | else-rest-gt0+else-first b ↦
          let none = no_word w items (omega (arith, count, b.if-rest-gt0.false)) in
          ap (λ o. o.items) b.out-is ∙ listed_end c.loop-word.out.items _ none ∙ rw b.if-first.false at c.loop-word.invariant
    ]
