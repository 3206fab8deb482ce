-- The facts on the functions of a word, at each width.
use Rattle.arrow2_model.proofs.Chunks.{chunks, chunk_bytes}
use Rattle.arrow2_model.proofs.Counts.{counted_words}
use Rattle.arrow2_model.proofs.Digits.{u8_bytes, unsigned_bytes}
use Rattle.arrow2_chunk.proofs.Ones.{set_bits}

-- of 8 bits
pub ruleset byte_functions = (chunks, chunk_bytes, counted_words, set_bits, u8_bytes)

-- of 16 bits and more
pub ruleset word_functions = (chunks, chunk_bytes, counted_words, set_bits, unsigned_bytes)
