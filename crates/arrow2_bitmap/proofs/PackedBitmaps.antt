-- Bitmaps that are stored with nothing else.
use Rattle.std.proofs.Common.{◌≡◌, ◌∙◌, ℕ, ◌+◌, ◌*◌, ◌/◌, List, Bool, false, length, take, replicate, get_or, ap, sym, inl, inr, arith}
use Rattle.std.proofs.lemmas.Bool.{cases_lt}
use Rattle.std.proofs.lemmas.List.{length-replicate, get_or-replicate, get_or_past}
use Rattle.arrow2_model.specs.Lists.{bits, canonical_bytes, IsCanonical, BitmapStorage, items_of}
use Rattle.arrow2_model.proofs.Bytes.{bits-zeros}
use Rattle.arrow2_model.proofs.Canonical.{canonical_is}
use Rattle.arrow2_packed_bits.proofs.Buffer.{length_items, copies_fit}
use Rattle.arrow2_bitmap.specs.PackedBitmaps.{IsPacked}

-- n items from bit 0 of these bytes on
abbrev from_start : List ℕ → ℕ → BitmapStorage
from_start bytes n = record { bytes = bytes; offset = 0; len = n }

-- the canonical bytes of its items
pub packed_items : (items : List Bool) (b : BitmapStorage) → items_of b ≡ items → b ≡ record { bytes = canonical_bytes items; offset = 0; len = length items } → IsPacked b
packed_items items b e is = is ∙ ap (λ (i : List Bool). from_start (canonical_bytes i) (length i)) (sym e)

-- canonical bytes
pub packed_bytes : (bytes : List ℕ) (n : ℕ) → IsCanonical bytes n → (b : BitmapStorage) → b ≡ record { bytes = bytes; offset = 0; len = n } → IsPacked b
packed_bytes bytes n canonical b is =
    packed_items (take n (bits bytes)) b (ap items_of is)
    (is ∙ (ap (λ s. from_start s n) (canonical_is bytes n canonical) ∙ ap (from_start (canonical_bytes (take n (bits bytes)))) (sym (length_items bytes n canonical))))

-- no bit of zeros is set
pub canonical_zeros : (n : ℕ) → IsCanonical (replicate ((n + 7) / 8) 0) n
canonical_zeros n =
    let m : ℕ = (n + 7) / 8 in
    record {
      fits = copies_fit m 0 (omega arith);
      exact = length-replicate m 0;
      clear = λ k h. ap (λ (t : List Bool). get_or t k false) (bits-zeros m) ∙ elim (cases_lt k (8 * m)) [
        | inl lt ↦ get_or-replicate (8 * m) k false false lt
        | inr ge ↦ let l = length-replicate (8 * m) false in get_or_past (replicate (8 * m) false) k false (omega (arith, l, ge))
      ];
    }
