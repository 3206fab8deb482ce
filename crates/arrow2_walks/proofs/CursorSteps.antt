-- Bits of words, by indices into the bytes that they are read from.
use Rattle.std.proofs.Common.{◌≡◌, ℕ, zero, suc, ◌+◌, ◌-◌, ◌/◌, ◌^◌, ◌<◌, ◌≤◌, ◌==◌, inl, inr, List, Bool, true, false, not, get_or, refl, sym, ap, ◌∙◌, arith}
use Rattle.std.specs.Int.{trailing_zeros}
use Rattle.std.specs.Int as width
use Rattle.std.specs.Int.Count.{trailing_of_zero}
use Rattle.std.proofs.Math.Nat.{div-div-eq-div-mul, div-one, pow-succ', zero-add}
use Rattle.std.proofs.lemmas.Bool.{cases_lt, not-false, not-true}
use Rattle.std.proofs.lemmas.Nat.Bits.{bit_at-trailing_zeros, bit_at-zero}
use Rattle.std.proofs.lemmas.List.{get_or-map}
use Rattle.arrow2_model.specs.Lists.{bit, unnum}
use Rattle.arrow2_model.proofs.Bits.{bit_is, get_or-unnum, length-unnum}
use Rattle.arrow2_model.proofs.Chunks.{unnum-not}
use Rattle.arrow2_walks.specs.Cursor.{IsFirst, IsRead}

-- the first bit that is set
pub first_set : (x p : ℕ) → x < 2 ^ 64 → p ≡ trailing_zeros width.w64 x → (p ≤ 64) × ((i : ℕ) → i < p → bit x i ≡ false) × (p < 64 → bit x p ≡ true)
first_set zero p h e =
    let all = e ∙ trailing_of_zero 64 in
    (omega (arith, all), (λ i l. bit_is 0 i ∙ ap (λ t. t == 1) (bit_at-zero i)), λ l. absurd (omega (arith, all, l)))
first_set (suc x) p h e =
    let b = bit_at-trailing_zeros width.w64 (suc x) (omega arith) h in
    let less = b.0 in
    (omega (arith, e, less), (λ i l. bit_is (suc x) i ∙ ap (λ t. t == 1) (b.2 i (omega (arith, e, l)))), λ l. ap (bit (suc x)) e ∙ (bit_is (suc x) (trailing_zeros width.w64 (suc x)) ∙ ap (λ t. t == 1) b.1))

flipped_bit : (x i : ℕ) → x < 2 ^ 64 → i < 64 → bit (2 ^ 64 - 1 - x) i ≡ not (bit x i)
flipped_bit x i h l =
    let n = length-unnum 64 x in
    sym (get_or-unnum 64 (2 ^ 64 - 1 - x) i false l) ∙ (ap (λ xs. get_or xs i false) (unnum-not 64 x (2 ^ 64 - 1 - x) h refl) ∙ (get_or-map not (unnum 64 x) i false false (omega (arith, n, l)) ∙ ap not (get_or-unnum 64 x i false l)))

-- the first bit that is not set, by the word with every bit flipped
pub first_unset : (x p : ℕ) → x < 2 ^ 64 → p ≡ trailing_zeros width.w64 (2 ^ 64 - 1 - x) → (p ≤ 64) × ((i : ℕ) → i < p → bit x i ≡ true) × (p < 64 → bit x p ≡ false)
first_unset x p h e =
    let f = first_set (2 ^ 64 - 1 - x) p (omega arith) e in
    let most = f.0 in
    (most, (λ i l. not-false (bit x i) (sym (flipped_bit x i h (omega (arith, most, l))) ∙ f.1 i l)), λ l. not-true (bit x p) (sym (flipped_bit x p h l) ∙ f.2 l))

-- a bit of a shifted number
pub bit_following : (n x i : ℕ) → bit (x / 2 ^ n) i ≡ bit x (n + i)
unfolding bit
bit_following zero x i = ap (λ t. bit t i) (div-one x) ∙ ap (bit x) (sym (zero-add i))
bit_following (suc n) x i =
    let d : x / 2 ^ suc n ≡ x / 2 / 2 ^ n = sym (div-div-eq-div-mul x 2 (2 ^ n) ∙ ap (λ (p : ℕ). x / p) (sym (pow-succ' 2 n))) in
    let e : suc n + i ≡ suc (n + i) = omega arith in
    ap (λ t. bit t i) d ∙ (bit_following n (x / 2) i ∙ sym (ap (bit x) e))

module _ (items : List Bool) (offset at end position w buffered : ℕ) (value : Bool) (read : IsRead items offset end position w buffered) where
  -- a bit that was read, by its index
  buffered_bit : (k : ℕ) → position ≤ k → k < position + buffered → get_or items (offset + k) false ≡ bit w (k - position)
  buffered_bit k l h =
      let e : position + (k - position) ≡ k = omega arith in
      sym (read.same (k - position) (omega arith) ∙ ap (λ t. get_or items (offset + t) false) e)

  -- bits of the word that are passed
  pub passed_bits : ((k : ℕ) → at ≤ k → k < position → get_or items (offset + k) false ≡ not value)
      → (passed : ℕ) → passed ≤ buffered → ((i : ℕ) → i < passed → bit w i ≡ not value)
      → (k : ℕ) → at ≤ k → k < position + passed → get_or items (offset + k) false ≡ not value
  passed_bits before passed most others k l h = elim (cases_lt k position) [
    | inl b ↦ before k l b
    | inr b ↦ buffered_bit k (omega arith) (omega arith) ∙ others (k - position) (omega arith)
  ]

  -- the index is in this word
  pub found_bit : at ≤ position → ((k : ℕ) → at ≤ k → k < position → get_or items (offset + k) false ≡ not value)
      → (passed : ℕ) → passed < buffered → ((i : ℕ) → i < passed → bit w i ≡ not value) → bit w passed ≡ value
      → IsFirst items offset at end value (position + passed)
  found_bit from before passed most others there =
      let e : position + passed - position ≡ passed = omega arith in
      let within = read.within in
      record {
        from = omega arith;
        within = omega arith;
        others = passed_bits before passed (omega arith) others;
        there = λ l. buffered_bit (position + passed) (omega arith) (omega arith) ∙ (ap (bit w) e ∙ there);
      }

  -- the bits left of it after that index
  pub read_following : (passed : ℕ) → passed < buffered → IsRead items offset end (position + passed) (w / 2 ^ passed) (buffered - passed)
  read_following passed most =
      let few = read.few in let within = read.within in
      record {
        few = omega arith;
        within = omega arith;
        same = λ i l.
            let e : position + (passed + i) ≡ position + passed + i = omega arith in
            bit_following passed w i ∙ (read.same (passed + i) (omega arith) ∙ ap (λ t. get_or items (offset + t) false) e);
      }
