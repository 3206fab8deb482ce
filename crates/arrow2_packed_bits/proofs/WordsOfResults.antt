-- Results as items, 64 at a time.
use Rattle.std.proofs.Common.{◌≡◌, ℕ, ◌+◌, ◌-◌, ◌*◌, ◌<◌, List, ◌++◌, Bool, false, length, get_or, ap, sym, ◌∙◌, subst, inl, inr, arith}
use Rattle.std.proofs.lemmas.Bool.{cases_lt}
use Rattle.std.proofs.lemmas.List.{get_or_append_left}
use Rattle.std.proofs.Math.Seq.{get_or-append_right}
use Rattle.arrow2_model.specs.Lists.{bits, num, unnum}
use Rattle.arrow2_model.proofs.Bits.{length-bits}
use Rattle.arrow2_packed_bits.proofs.PackedWords.{block_following}

-- facts on the items of two lists, each by its index, hold of the one list followed by the other
pub each-append : (P : ℕ → Bool → Type 0) (old block all : List Bool) (n m : ℕ) → length old ≡ n → all ≡ old ++ block → ((k : ℕ) → k < n → P k (get_or old k false)) → ((k : ℕ) → k < m → P (n + k) (get_or block k false))
    → (k : ℕ) → k < n + m → P k (get_or all k false)
each-append P old block all n m size is front back k h = elim (cases_lt k n) [
  | inl less ↦ subst (P k) (sym (ap (λ l. get_or l k false) is ∙ get_or_append_left old block false k (omega (arith, less, size)))) (front k less)
  | inr more ↦
      let at : n + (k - n) ≡ k = omega (arith, more) in
      let position : k - length old ≡ k - n = omega (arith, size) in
      let item = back (k - n) (omega (arith, more, h)) in
      let there : get_or all k false ≡ get_or block (k - n) false = ap (λ l. get_or l k false) is ∙ (get_or-append_right old block k false (omega (arith, more, size)) ∙ ap (λ i. get_or block i false) position) in
      subst (P k) (sym there) (subst (λ (i : ℕ). P i (get_or block (k - n) false)) at item)
]

-- the same of bytes followed by a word, where it holds of the bits of the bytes
pub each-word : (P : ℕ → Bool → Type 0) (bytes after word : List ℕ) (block : List Bool) (n m x : ℕ) → length bytes ≡ 8 * n → length block ≡ 64 → x ≡ num block → bits word ≡ unnum 64 x → after ≡ bytes ++ word
    → ((k : ℕ) → k < 64 * n → P k (get_or (bits bytes) k false)) → ((k : ℕ) → k < m → P (64 * n + k) (get_or block k false)) → (k : ℕ) → k < 64 * n + m → P k (get_or (bits after) k false)
each-word P bytes after word block n m x size wide number bits-of was front back =
    let long = length-bits bytes in
    each-append P (bits bytes) block (bits after) (64 * n) m (omega (arith, long, size)) (block_following bytes after word block x wide number bits-of was) front back
