-- `runs` gives just the maximal runs.
use Rattle.std.proofs.Common.{◌≡◌, ℕ, zero, suc, ◌+◌, ◌<◌, ◌≤◌, inl, inr, List, [], ◌∷◌, Bool, true, false, map, get_or, refl, sym, ap, ◌∙◌, arith, true≢false}
use Rattle.arrow2_walks.specs.Runs.{shift_run, with_true, runs, IsRun, AllRuns, AreRisingPast, AreRising, InRuns, AreRuns}

-- a run stays one after an item is put before it, where the run isn't first or the item is false
moved_run : (b : Bool) (xs : List Bool) (p : ℕ × ℕ) → (p.0 ≡ 0 → b ≡ false) → IsRun xs p → IsRun (b ∷ xs) (shift_run 1 p)
moved_run b xs (s, n) first r =
    let one : 1 + s ≡ suc s = omega arith in
    let at : (k : ℕ) → get_or (b ∷ xs) ((1 + s) + k) false ≡ get_or xs (s + k) false = λ k. let e : (1 + s) + k ≡ suc (s + k) = omega arith in rw e refl in
    let before : (j : ℕ) → suc j ≡ 1 + s → get_or (b ∷ xs) j false ≡ false = λ j e. elim j as (λ i. suc i ≡ 1 + s → get_or (b ∷ xs) i false ≡ false) [
      | zero ↦ λ f. first (omega arith)
      | suc i ↦ λ f. r.unset_before i (omega arith)
    ] e in
    record { some = r.some; set = λ k h. at k ∙ r.set k h; unset_before = before; unset_after = at n ∙ r.unset_after }

moved_all_false : (xs : List Bool) (ps : List (ℕ × ℕ)) → AllRuns xs ps → AllRuns (false ∷ xs) (map (shift_run 1) ps)
moved_all_false xs [] a = tt
moved_all_false xs (p ∷ ps) a = (moved_run false xs p (λ e. refl) a.0, moved_all_false xs ps a.1)

moved_all_true : (xs : List Bool) (e : ℕ) (ps : List (ℕ × ℕ)) → AreRisingPast e ps → AllRuns xs ps → AllRuns (true ∷ xs) (map (shift_run 1) ps)
moved_all_true xs e [] h a = tt
moved_all_true xs e (p ∷ ps) h a = let l = h.0 in (moved_run true xs p (λ z. absurd (omega arith)) a.0, moved_all_true xs (p.0 + p.1) ps h.1 a.1)

moved_past : (e f : ℕ) (ps : List (ℕ × ℕ)) → f ≤ suc e → AreRisingPast e ps → AreRisingPast f (map (shift_run 1) ps)
moved_past e f [] l h = tt
moved_past e f (p ∷ ps) l h = let k = h.0 in (omega arith, moved_past (p.0 + p.1) (1 + p.0 + p.1) ps (omega arith) h.1)

moved_rise : (ps : List (ℕ × ℕ)) → AreRising ps → AreRising (map (shift_run 1) ps)
moved_rise [] h = tt
moved_rise (p ∷ ps) h = moved_past (p.0 + p.1) (1 + p.0 + p.1) ps (omega arith) h

moved_in : (k : ℕ) (ps : List (ℕ × ℕ)) → InRuns k ps → InRuns (suc k) (map (shift_run 1) ps)
moved_in k [] h = h
moved_in k (p ∷ ps) (inl h) = let a = h.0 in let b = h.1 in inl (omega arith, omega arith)
moved_in k (p ∷ ps) (inr h) = inr (moved_in k ps h)

none_before : (e k : ℕ) (ps : List (ℕ × ℕ)) → AreRisingPast e ps → k ≤ e → InRuns k ps → ⊥
none_before e k [] r l h = h
none_before e k (p ∷ ps) r l (inl h) = let a = r.0 in let b = h.0 in omega arith
none_before e k (p ∷ ps) r l (inr h) = let a = r.0 in none_before (p.0 + p.1) k ps r.1 (omega arith) h

not_true : (b : Bool) → (b ≡ true → ⊥) → b ≡ false
not_true true h = absurd (h refl)
not_true false h = refl

-- a run of the one true item at the start
alone : (xs : List Bool) → get_or xs 0 false ≡ false → IsRun (true ∷ xs) (0, 1)
alone xs h = record {
  some = omega arith;
  set = λ k l. let e : 0 + k ≡ 0 = omega arith in rw e refl;
  unset_before = λ j e. absurd (omega arith);
  unset_after = h;
}

false_runs : (xs : List Bool) (ps : List (ℕ × ℕ)) → AreRuns xs ps → AreRuns (false ∷ xs) (map (shift_run 1) ps)
false_runs xs ps h = record {
  maximal = moved_all_false xs ps h.maximal;
  rising = moved_rise ps h.rising;
  all = λ k. elim k as (λ i. get_or (false ∷ xs) i false ≡ true → InRuns i (map (shift_run 1) ps)) [
    | zero ↦ λ e. absurd (true≢false (sym e))
    | suc i ↦ λ e. moved_in i ps (h.all i e)
  ];
}

true_runs : (xs : List Bool) (ps : List (ℕ × ℕ)) → AreRuns xs ps → AreRuns (true ∷ xs) (with_true ps)
true_runs xs [] h =
    let none = not_true (get_or xs 0 false) (h.all 0) in
    record {
      maximal = (alone xs none, tt);
      rising = tt;
      all = λ k. elim k as (λ i. get_or (true ∷ xs) i false ≡ true → InRuns i ((0, 1) ∷ [])) [
        | zero ↦ λ e. inl (omega arith, omega arith)
        | suc i ↦ λ e. absurd (h.all i e)
      ];
    }
true_runs xs ((zero, n) ∷ ps) h =
    let r = h.maximal.0 in
    let trues : (k : ℕ) → k < suc n → get_or (true ∷ xs) (0 + k) false ≡ true = λ k l. elim k as (λ i. i < suc n → get_or (true ∷ xs) (0 + i) false ≡ true) [
      | zero ↦ λ m. refl
      | suc i ↦ λ m. let e : 0 + suc i ≡ suc i = omega arith in let f : 0 + i ≡ i = omega arith in rw e (ap (λ t. get_or xs t false) (sym f) ∙ r.set i (omega arith))
    ] l in
    let following : get_or (true ∷ xs) (0 + suc n) false ≡ false = let e : 0 + suc n ≡ suc n = omega arith in let f : 0 + n ≡ n = omega arith in rw e (ap (λ t. get_or xs t false) (sym f) ∙ r.unset_after) in
    record {
      maximal = (record { some = omega arith; set = trues; unset_before = λ j e. absurd (omega arith); unset_after = following }, moved_all_true xs (0 + n) ps h.rising h.maximal.1);
      rising = moved_past (0 + n) (0 + suc n) ps (omega arith) h.rising;
      all = λ k. elim k as (λ i. get_or (true ∷ xs) i false ≡ true → InRuns i ((0, suc n) ∷ map (shift_run 1) ps)) [
        | zero ↦ λ e. inl (omega arith, omega arith)
        | suc i ↦ λ e. elim (h.all i e) [
          | inl w ↦ let a = w.1 in inl (omega arith, omega arith)
          | inr w ↦ inr (moved_in i ps w)
        ]
      ];
    }
true_runs xs ((suc s, n) ∷ ps) h =
    let rise : AreRisingPast 0 ((suc s, n) ∷ ps) = (omega arith, h.rising) in
    let none = not_true (get_or xs 0 false) (λ e. none_before 0 0 ((suc s, n) ∷ ps) rise (omega arith) (h.all 0 e)) in
    record {
      maximal = (alone xs none, moved_all_true xs 0 ((suc s, n) ∷ ps) rise h.maximal);
      rising = moved_past 0 (0 + 1) ((suc s, n) ∷ ps) (omega arith) rise;
      all = λ k. elim k as (λ i. get_or (true ∷ xs) i false ≡ true → InRuns i ((0, 1) ∷ map (shift_run 1) ((suc s, n) ∷ ps))) [
        | zero ↦ λ e. inl (omega arith, omega arith)
        | suc i ↦ λ e. inr (moved_in i ((suc s, n) ∷ ps) (h.all i e))
      ];
    }

pub runs_are : (items : List Bool) → AreRuns items (runs items)
unfolding runs
runs_are [] = record { maximal = tt; rising = tt; all = λ k e. absurd (true≢false (sym e)) }
runs_are (false ∷ items) = false_runs items (runs items) (runs_are items)
runs_are (true ∷ items) = true_runs items (runs items) (runs_are items)
