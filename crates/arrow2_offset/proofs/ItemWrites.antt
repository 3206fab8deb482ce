-- Items written one by one.
use Rattle.std.proofs.Common.{◌≡◌, ◌≢◌, inl, inr, ℕ, ◌+◌, ◌<◌, List, length, get_or, set, ◌∙◌, arith, get_or-set_same, get_or-set_other}
use Rattle.std.proofs.lemmas.Bool.{cases_lt}

-- at each index below i is the number that f has, and x is at i
pub one_more : {X : Type 0} (xs : List X) (f : ℕ → X) (d : X) (i : ℕ) (x : X) → i < length xs → x ≡ f i → ((k : ℕ) → k < i → get_or xs k d ≡ f k) → (k : ℕ) → k < i + 1 → get_or (set xs i x) k d ≡ f k
one_more xs f d i x l is done k h = elim (cases_lt k i) [
  | inl low ↦ let other : k ≢ i = λ e. omega (arith, e) in get_or-set_other xs i k x d other ∙ done k low
  | inr last ↦ let e : k ≡ i = omega arith in rw e (get_or-set_same xs i x d l ∙ is)
]
