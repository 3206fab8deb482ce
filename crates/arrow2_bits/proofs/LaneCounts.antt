-- Four lanes of 64 bits, made of 32 bytes, and the number of bits of their bytes that are not set.
use Rattle.std.proofs.Common.{◌≡◌, ℕ, ◌+◌, ◌*◌, ◌^◌, ◌<◌, List, [], ◌∷◌, length, get_or, refl, ap, sym, ◌∙◌, inl, inr, arith, w8, Fits}
use lib.Lanes.{number_l, digits_l, chunk, Each1}
use Rattle.std.proofs.lemmas.Simd.{get_or_wider, Each1-get_or, below_from_Fits, length-chunk, get_or-chunk}
use Rattle.std.proofs.lemmas.Bool.{cases_lt}
use Rattle.std.proofs.lemmas.List.{get_or_past}
use Rattle.arrow2_model.specs.Lists.{bits, unnum, part, falses}
use Rattle.arrow2_model.specs.Digits.{digits_number}
use Rattle.arrow2_model.proofs.Bits.{length-bits}
use Rattle.arrow2_model.proofs.Bytes.{part-bits}
use Rattle.arrow2_model.proofs.Chunks.{read_bits}
use Rattle.arrow2_model.proofs.Counts.{falses-part_three}
use Rattle.arrow2_model.proofs.Digits.{number-cons, number-nil, natural_from-all}
use Rattle.arrow2_model.proofs.Parts.{part_all}

number_is : (xs : List ℕ) → number_l 256 xs ≡ digits_number xs
number_is [] = sym number-nil
number_is (x ∷ xs) = rw (number-cons x xs, number_is xs) refl

-- the bits of a lane are those of its bytes
pub lane_bits : (bytes : List ℕ) (j : ℕ) → length bytes ≡ 32 → Each1 (Fits w8) bytes → j < 4 → unnum 64 (get_or (digits_l (2 ^ 64) 4 (number_l 256 bytes)) j 0) ≡ bits (part bytes (8 * j) 8)
lane_bits bytes j l fits h =
    let size = length-chunk (8 * j) 8 bytes (omega arith) in
    let each : Each1 (λ (x : ℕ). x < 256) bytes = below_from_Fits w8 bytes fits in
    let wide = get_or_wider 256 8 (2 ^ 64) 4 bytes j refl each h in
    read_bits 64 (get_or (digits_l (2 ^ 64) 4 (number_l 256 bytes)) j 0) (chunk (8 * j) 8 bytes) (omega (arith, size))
    (wide ∙ (number_is (chunk (8 * j) 8 bytes) ∙ sym (natural_from-all 8 (chunk (8 * j) 8 bytes) size)))
    (λ k. elim (cases_lt k 8) [
      | inl inside ↦ rw (get_or-chunk (8 * j) 8 bytes k 0 inside) (Each1-get_or (λ (x : ℕ). x < 256) bytes (8 * j + k) 0 (omega arith) each)
      | inr past ↦ rw (get_or_past (chunk (8 * j) 8 bytes) k 0 (omega arith)) (omega arith)
    ])

-- a lane that was counted
pub lane_counted : (bytes : List ℕ) (j x n : ℕ) → length bytes ≡ 32 → Each1 (Fits w8) bytes → j < 4 → x ≡ get_or (digits_l (2 ^ 64) 4 (number_l 256 bytes)) j 0 → n + falses (unnum 64 x) ≡ 64 → n + falses (part (bits bytes) (8 * (8 * j)) (8 * 8)) ≡ 64
lane_counted bytes j x n l fits h is counted =
    let same : falses (unnum 64 x) ≡ falses (part (bits bytes) (8 * (8 * j)) (8 * 8)) =
    ap (λ y. falses (unnum 64 y)) is ∙ ap falses (lane_bits bytes j l fits h ∙ sym (part-bits bytes (8 * j) 8 (omega arith))) in
    omega (arith, same, counted)

-- all four
pub four_counted : (bytes : List ℕ) (a b d e : ℕ) → length bytes ≡ 32 → a + falses (part (bits bytes) 0 64) ≡ 64 → b + falses (part (bits bytes) 64 64) ≡ 64 → d + falses (part (bits bytes) 128 64) ≡ 64 → e + falses (part (bits bytes) 192 64) ≡ 64
    → a + b + (d + e) + falses (bits bytes) ≡ 256
four_counted bytes a b d e l is-a is-b is-d is-e =
    let n = length-bits bytes in
    let all = ap falses (part_all (bits bytes) 256 (omega (arith, n))) in
    let first = falses-part_three (bits bytes) 0 64 64 128 256 refl in
    let second = falses-part_three (bits bytes) 128 64 64 0 128 refl in
    omega (arith, all, first, second, is-a, is-b, is-d, is-e)
