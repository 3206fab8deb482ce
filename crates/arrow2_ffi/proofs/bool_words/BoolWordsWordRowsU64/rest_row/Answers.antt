use Rattle.std.proofs.Common.{ℕ, [], ◌∷◌, ap}
use Rattle.arrow2_ffi.proofs.BoolSteps.{rest_block}
use Rattle.arrow2_ffi.proofs.bool_words.BoolWordsWordRowsU64.rest_row.Goals as goal

pub returns-clause-row : goal.returns-clause-row
returns-clause-row c = ap (λ (n : ℕ). n ∷ []) (rest_block c.args.self.now.items.now c.padded_block.result c.word_of.result c.masked.result c.requires.short c.word_of.ensures c.padded_block.ensures.front c.padded_block.ensures.size c.masked.ensures.bits c.masked.ensures.fits)
