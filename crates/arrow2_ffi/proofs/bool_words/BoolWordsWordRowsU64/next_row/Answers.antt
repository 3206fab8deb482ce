use Rattle.std.proofs.Common.{◌≡◌, ◌<◌, ◌≤◌, ◌^◌, ℕ, List, [], ◌∷◌, Bool, ap, length, subst, sym, arith}
use Rattle.arrow2_model.specs.Lists.{word}
use Rattle.arrow2_model.proofs.Numbers.{num-part-lt}
use Rattle.arrow2_kernels.proofs.RowSteps.{one_word}
use Rattle.arrow2_ffi.proofs.BoolSteps.{fewer_items, first_block, next_block}
use Rattle.arrow2_ffi.proofs.bool_words.BoolWordsWordRowsU64.next_row.Goals as goal

pub returns-clause-row : goal.returns-clause-row
returns-clause-row c =
    let items : List Bool = c.args.self.now.items.now in
    let x : ℕ = c.word_of-word.result in
    let enough : 64 ≤ length items = omega (arith, c.if-self-lt64.false) in
    let is : x ≡ word 64 items 0 = first_block items c.padded_block.result x enough c.word_of-word.ensures c.padded_block.ensures.front c.padded_block.ensures.size in (
      ap (λ (n : ℕ). n ∷ []) is,
      one_word 64 x (subst (λ (n : ℕ). n < 2 ^ 64) (sym is) (num-part-lt 64 items 0)),
      fewer_items items enough,
      λ j. ap (λ (n : ℕ). n ∷ []) (next_block items j enough),
    )
