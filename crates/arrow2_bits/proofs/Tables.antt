-- The tables by which a bit is written, and the two halves of a byte.
use Rattle.std.proofs.Common.{◌≡◌, ℕ, suc, ◌+◌, ◌-◌, ◌*◌, ◌%◌, ◌^◌, ◌<◌, ◌==◌, List, [], ◌∷◌, ◌++◌, false, get_or, ap, refl, ◌∙◌, arith, Bool, true, codes, ◌/◌}
use Rattle.std.specs.Int.{bit_not, from_bool, w8}
use Rattle.std.proofs.lemmas.List.FromFn.{get_or-map-range_with_len}
use Rattle.std.proofs.lemmas.List.{get_or_append_left, get_or-append_right}
use Rattle.arrow2_model.specs.Shown.{shown_byte}
use Rattle.arrow2_bits.specs.Digits.{four_digits}
use Rattle.arrow2_model.specs.Lists.{bit, bits}
use Rattle.arrow2_model.proofs.Shown.{bit_alone}

abbrev kept : List ℕ
kept = 254 ∷ 253 ∷ 251 ∷ 247 ∷ 239 ∷ 223 ∷ 191 ∷ 127 ∷ []

abbrev none : List ℕ
none = 0 ∷ 0 ∷ 0 ∷ 0 ∷ 0 ∷ 0 ∷ 0 ∷ 0 ∷ []

abbrev each_bit : List ℕ
each_bit = 1 ∷ 2 ∷ 4 ∷ 8 ∷ 16 ∷ 32 ∷ 64 ∷ 128 ∷ []

-- the masks by which bit i is written: the bits that the byte keeps; 8 entries later, the bits that are set for false;
-- and 8 later, for true
abbrev pub masks : List ℕ
masks = kept ++ (none ++ each_bit)

pub kept_at : (i : ℕ) → i < 8 → get_or masks i 0 ≡ bit_not w8 (1 * 2 ^ i % 2 ^ 8)
kept_at i h =
    get_or_append_left kept (none ++ each_bit) 0 i (omega arith)
    ∙ get_or-map-range_with_len (λ i. bit_not w8 (1 * 2 ^ i % 2 ^ 8)) 0 8 i i 0 h (omega arith)

pub written_at : (i : ℕ) (value : Bool) → i < 8 → get_or masks (8 + 8 * from_bool value + i) 0 ≡ from_bool value * 2 ^ i % 2 ^ 8
written_at i true h =
    let at : 8 + 8 * 1 + i - 8 ≡ 8 + i = omega arith in
    let last : 8 + i - 8 ≡ i = omega arith in
    get_or-append_right kept (none ++ each_bit) 8 (8 + 8 * 1 + i) 0 refl (omega arith)
    ∙ (ap (λ j. get_or (none ++ each_bit) j 0) at
    ∙ (get_or-append_right none each_bit 8 (8 + i) 0 refl (omega arith)
    ∙ (ap (λ j. get_or each_bit j 0) last ∙ get_or-map-range_with_len (λ j. 1 * 2 ^ j % 2 ^ 8) 0 8 i i 0 h (omega arith))))
written_at i false h =
    let at : 8 + 8 * 0 + i - 8 ≡ i = omega arith in
    let zero : 0 ≡ 0 * 2 ^ i % 2 ^ 8 = omega arith in
    get_or-append_right kept (none ++ each_bit) 8 (8 + 8 * 0 + i) 0 refl (omega arith)
    ∙ (ap (λ j. get_or (none ++ each_bit) j 0) at
    ∙ (get_or_append_left none each_bit 0 i (omega arith) ∙ (get_or-map-range_with_len (λ _. 0) 0 8 i i 0 h (omega arith) ∙ zero)))

-- a byte is shown by its two halves
pub halves : (x : ℕ) → codes "0b" ++ (four_digits (x / 16) ++ four_digits (x % 16)) ≡ shown_byte (x ∷ []) 0 8 0
unfolding shown_byte bit
halves x = rw (alone 7 (omega arith), alone 6 (omega arith), alone 5 (omega arith), alone 4 (omega arith), alone 3 (omega arith), alone 2 (omega arith), alone 1 (omega arith), alone 0 (omega arith)) (
    rw (high 3, high 2, high 1, high 0, low.0, low.1, low.2, low.3) refl
    )
  where
    alone : (i : ℕ) → i < 8 → get_or (bits (x ∷ [])) i false ≡ bit x i
    alone i h = bit_alone x i h

    high : (i : ℕ) → bit (x / 16) i ≡ bit x (suc (suc (suc (suc i))))
    high i = ap (λ y. bit y i) (omega arith)

    low : (bit (x % 16) 3 ≡ bit x 3) × (bit (x % 16) 2 ≡ bit x 2) × (bit (x % 16) 1 ≡ bit x 1) × (bit (x % 16) 0 ≡ bit x 0)
    low = (ap (λ y. y == 1) (omega arith), ap (λ y. y == 1) (omega arith), ap (λ y. y == 1) (omega arith), ap (λ y. y == 1) (omega arith))
