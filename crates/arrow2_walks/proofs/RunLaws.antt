-- Laws of runs: they lie apart, cover just the true items, and their lengths are the number of those.
use Rattle.std.proofs.Common.{◌≡◌, ℕ, zero, suc, ◌+◌, ◌-◌, ◌<◌, inl, inr, List, [], ◌∷◌, Bool, true, false, map, cond, not, get_or, length, refl, sym, ap, ◌∙◌, arith, slice_index_or, sum_by}
use Rattle.std.proofs.lemmas.List.Sums.{sum_by-cons}
use Rattle.arrow2_model.specs.Lists.{falses}
use Rattle.arrow2_walks.specs.Runs.{shift_run, with_true, runs, AllRuns, AreRisingPast, AreRising, InRuns}
use Rattle.arrow2_walks.proofs.MaximalRuns.{runs_are}
use Rattle.arrow2_walks.proofs.UniqueRuns.{runs_unique}

past : (e j : ℕ) (ps : List (ℕ × ℕ)) → AreRisingPast e ps → j < length ps → e < (slice_index_or ps j (0, 0)).0
past e j [] r l = absurd (omega arith)
past e zero (p ∷ ps) r l = r.0
past e (suc j) (p ∷ ps) r l = let a = r.0 in let b = past (p.0 + p.1) j ps r.1 (omega arith) in omega arith

apart : (ps : List (ℕ × ℕ)) (i j : ℕ) → AreRising ps → i < j → j < length ps → (slice_index_or ps i (0, 0)).0 + (slice_index_or ps i (0, 0)).1 < (slice_index_or ps j (0, 0)).0
apart [] i j r l h = absurd (omega arith)
apart (p ∷ ps) i zero r l h = absurd (omega arith)
apart (p ∷ ps) zero (suc j) r l h = past (p.0 + p.1) j ps r (omega arith)
apart (p ∷ []) (suc i) (suc j) r l h = absurd (omega arith)
apart (p ∷ q ∷ ps) (suc i) (suc j) r l h = apart (q ∷ ps) i j r.1 (omega arith) (omega arith)

pub runs_apart : (items : List Bool) (i j : ℕ) → i < j → j < length (runs items) → (slice_index_or (runs items) i (0, 0)).0 + (slice_index_or (runs items) i (0, 0)).1 < (slice_index_or (runs items) j (0, 0)).0
runs_apart items i j = apart (runs items) i j (runs_are items).rising

in_a_run : (items : List Bool) (k : ℕ) (ps : List (ℕ × ℕ)) → AllRuns items ps → InRuns k ps → get_or items k false ≡ true
in_a_run items k [] a h = absurd h
in_a_run items k (p ∷ ps) a (inl h) =
    let l = h.0 in let m = h.1 in
    let e : p.0 + (k - p.0) ≡ k = omega arith in
    ap (λ t. get_or items t false) (sym e) ∙ a.0.set (k - p.0) (omega arith)
in_a_run items k (p ∷ ps) a (inr h) = in_a_run items k ps a.1 h

pub runs_cover : (items : List Bool) (k : ℕ) → get_or items k false ≡ true → InRuns k (runs items)
runs_cover items k = (runs_are items).all k

pub runs_cover_no_other : (items : List Bool) (k : ℕ) → InRuns k (runs items) → get_or items k false ≡ true
runs_cover_no_other items k = in_a_run items k (runs items) (runs_are items).maximal

moved-lengths : (ps : List (ℕ × ℕ)) → sum_by (λ p. p.1) (map (shift_run 1) ps) ≡ sum_by (λ p. p.1) ps
moved-lengths [] = refl
moved-lengths (p ∷ ps) =
    let a = sum_by-cons (λ (q : ℕ × ℕ). q.1) (shift_run 1 p) (map (shift_run 1) ps) in
    let b = sum_by-cons (λ (q : ℕ × ℕ). q.1) p ps in
    let r = moved-lengths ps in
    omega (arith, a, b, r)

with_true-lengths : (ps : List (ℕ × ℕ)) → sum_by (λ p. p.1) (with_true ps) ≡ suc (sum_by (λ p. p.1) ps)
with_true-lengths [] = refl
with_true-lengths ((zero, n) ∷ ps) =
    let a = sum_by-cons (λ (q : ℕ × ℕ). q.1) (0, suc n) (map (shift_run 1) ps) in
    let b = sum_by-cons (λ (q : ℕ × ℕ). q.1) (0, n) ps in
    let r = moved-lengths ps in
    omega (arith, a, b, r)
with_true-lengths ((suc s, n) ∷ ps) =
    let a = sum_by-cons (λ (q : ℕ × ℕ). q.1) (0, 1) (map (shift_run 1) ((suc s, n) ∷ ps)) in
    let r = moved-lengths ((suc s, n) ∷ ps) in
    omega (arith, a, r)

pub lengths_of_runs : (items : List Bool) → sum_by (λ p. p.1) (runs items) + falses items ≡ length items
unfolding runs
lengths_of_runs [] = refl
lengths_of_runs (false ∷ items) =
    let a = sum_by-cons (λ (x : Bool). cond (not x) 1 0) false items in
    let b = moved-lengths (runs items) in
    let r = lengths_of_runs items in
    omega (arith, a, b, r)
lengths_of_runs (true ∷ items) =
    let a = sum_by-cons (λ (x : Bool). cond (not x) 1 0) true items in
    let b = with_true-lengths (runs items) in
    let r = lengths_of_runs items in
    omega (arith, a, b, r)

pub ruleset runs_of_a_list = (runs_are, runs_unique, runs_apart, runs_cover, runs_cover_no_other, lengths_of_runs)
