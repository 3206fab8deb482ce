-- The maximal runs, rising, are one list: `AreRuns` of a list determines it.
use Rattle.std.proofs.Common.{◌≡◌, ℕ, suc, ◌+◌, ◌<◌, ◌≤◌, inl, inr, List, [], ◌∷◌, Bool, true, false, get_or, refl, sym, ap, subst, ◌∙◌, arith}
use Rattle.std.proofs.lemmas.Bool.{true≢false, cases_order}
use Rattle.arrow2_walks.specs.Runs.{runs, IsRun, AllRuns, AreRisingPast, AreRising, InRuns, AreRuns}
use Rattle.arrow2_walks.proofs.MaximalRuns.{runs_are}

-- the runs rise, and the first begins at e or past it
abbrev From : ℕ → List (ℕ × ℕ) → Type 0
From e [] = Unit {0}
From e (p ∷ ps) = (e ≤ p.0) × AreRisingPast (p.0 + p.1) ps

from_past : (e : ℕ) (ps : List (ℕ × ℕ)) → AreRisingPast e ps → From (suc e) ps
from_past e [] h = tt
from_past e (p ∷ ps) h = let l = h.0 in (omega arith, h.1)

from_rise : (ps : List (ℕ × ℕ)) → AreRising ps → From 0 ps
from_rise [] h = tt
from_rise (p ∷ ps) h = (omega arith, h)

-- an index in a rising list is past the indices before it
pub in_past : (e k : ℕ) (ps : List (ℕ × ℕ)) → AreRisingPast e ps → InRuns k ps → e < k
in_past e k [] r h = absurd h
in_past e k (p ∷ ps) r (inl h) = let a = r.0 in let b = h.0 in omega arith
in_past e k (p ∷ ps) r (inr h) = let a = r.0 in let b = in_past (p.0 + p.1) k ps r.1 h in omega arith

first_true : (items : List Bool) (p : ℕ × ℕ) → IsRun items p → get_or items p.0 false ≡ true
first_true items p r = let e : p.0 + 0 ≡ p.0 = omega arith in ap (λ t. get_or items t false) (sym e) ∙ r.set 0 r.some

begins_by : (items : List Bool) (e : ℕ) (p q : ℕ × ℕ) (qs : List (ℕ × ℕ)) → e ≤ p.0 → IsRun items p → AreRisingPast (q.0 + q.1) qs → ((k : ℕ) → e ≤ k → get_or items k false ≡ true → InRuns k (q ∷ qs)) → q.0 ≤ p.0
begins_by items e p q qs l r h c = elim (c p.0 l (first_true items p r)) [
  | inl w ↦ w.0
  | inr w ↦ let b = in_past (q.0 + q.1) p.0 qs h w in omega arith
]

no_longer : (items : List Bool) (s n m : ℕ) → IsRun items (s, n) → IsRun items (s, m) → n < m → ⊥
no_longer items s n m a b l = true≢false (sym (b.set n l) ∙ a.unset_after)

tail_covers : (items : List Bool) (e : ℕ) (p : ℕ × ℕ) (ps : List (ℕ × ℕ)) → e ≤ p.0 → ((k : ℕ) → e ≤ k → get_or items k false ≡ true → InRuns k (p ∷ ps)) → (k : ℕ) → suc (p.0 + p.1) ≤ k → get_or items k false ≡ true → InRuns k ps
tail_covers items e p ps l c k h t = elim (c k (omega arith) t) [
  | inl w ↦ let b = w.1 in absurd (omega arith)
  | inr w ↦ w
]

unique : (items : List Bool) (e : ℕ) (ps qs : List (ℕ × ℕ)) → AllRuns items ps → AllRuns items qs → From e ps → From e qs → ((k : ℕ) → e ≤ k → get_or items k false ≡ true → InRuns k ps) → ((k : ℕ) → e ≤ k → get_or items k false ≡ true → InRuns k qs) → ps ≡ qs
unique items e [] [] a b f g c d = refl
unique items e [] (q ∷ qs) a b f g c d = absurd (c q.0 g.0 (first_true items q b.0))
unique items e (p ∷ ps) [] a b f g c d = absurd (d p.0 f.0 (first_true items p a.0))
unique items e ((s, n) ∷ ps) ((t, m) ∷ qs) a b f g c d =
    let x = begins_by items e (s, n) (t, m) qs f.0 a.0 g.1 d in
    let y = begins_by items e (t, m) (s, n) ps g.0 b.0 f.1 c in
    let same : s ≡ t = omega arith in
    let other : IsRun items (s, m) = subst (λ z. IsRun items (z, m)) (sym same) b.0 in
    let long : n ≡ m = elim (cases_order n m) [
      | inl i ↦ i
      | inr (inl l) ↦ absurd (no_longer items s n m a.0 other l)
      | inr (inr l) ↦ absurd (no_longer items s m n other a.0 l)
    ] in
    let ends : t + m ≡ s + n = omega arith in
    let tails = unique items (suc (s + n)) ps qs a.1 b.1 (from_past (s + n) ps f.1) (from_past (s + n) qs (subst (λ z. AreRisingPast z qs) ends g.1))
    (tail_covers items e (s, n) ps f.0 c) (λ k h u. tail_covers items e (t, m) qs g.0 d k (omega arith) u) in
    ap (λ z. (s, n) ∷ z) tails ∙ (ap (λ z. (z, n) ∷ qs) same ∙ ap (λ z. (t, z) ∷ qs) long)

pub runs_unique : (items : List Bool) (ps : List (ℕ × ℕ)) → AreRuns items ps → ps ≡ runs items
runs_unique items ps h =
    let r = runs_are items in
    unique items 0 ps (runs items) h.maximal r.maximal (from_rise ps h.rising) (from_rise (runs items) r.rising) (λ k l. h.all k) (λ k l. r.all k)
