-- The steps of an iterator over the runs.
use Rattle.std.proofs.Common.{◌≡◌, ℕ, zero, suc, ◌+◌, ◌-◌, ◌<◌, ◌≤◌, List, [], ◌∷◌, Bool, true, false, map, get_or, drop, length, refl, sym, ap, ◌∙◌, arith, true≢false}
use Rattle.std.proofs.lemmas.List.{drop_more, drop_all, drop-drop, get_or-drop, get_or_past}
use Rattle.arrow2_walks.specs.Runs.{with_true, runs, shift_run, runs_from}

moved-moved : (a b : ℕ) (ps : List (ℕ × ℕ)) → map (shift_run a) (map (shift_run b) ps) ≡ map (shift_run (a + b)) ps
moved-moved a b [] = refl
moved-moved a b (p ∷ ps) = let e : a + (b + p.0) ≡ (a + b) + p.0 = omega arith in rw (e, moved-moved a b ps) refl

moved-none : (ps : List (ℕ × ℕ)) → map (shift_run 0) ps ≡ ps
moved-none [] = refl
moved-none (p ∷ ps) = let e : 0 + p.0 ≡ p.0 = omega arith in rw (e, moved-none ps) refl

-- the runs of the whole list
pub runs_from_start : (items : List Bool) → runs_from items 0 ≡ runs items
runs_from_start items = moved-none (runs items)

-- an unset item is passed over
pub runs_from_unset : (items : List Bool) (at : ℕ) → at < length items → get_or items at false ≡ false → runs_from items (at + 1) ≡ runs_from items at
unfolding runs
runs_from_unset items at h e =
    let cut : drop at items ≡ false ∷ drop (at + 1) items = drop_more items at false h ∙ ap (λ x. x ∷ drop (at + 1) items) e in
    sym (ap (λ xs. map (shift_run at) (runs xs)) cut ∙ moved-moved at 1 (runs (drop (at + 1) items)))

-- so are the unset items up to index e
pub runs_from_gap : (items : List Bool) (at n : ℕ) → at + n ≤ length items → ((k : ℕ) → at ≤ k → k < at + n → get_or items k false ≡ false) → runs_from items (at + n) ≡ runs_from items at
runs_from_gap items at zero h f = let e : at + 0 ≡ at = omega arith in rw e refl
runs_from_gap items at (suc n) h f =
    let e : at + suc n ≡ (at + n) + 1 = omega arith in
    rw e (runs_from_unset items (at + n) (omega arith) (f (at + n) (omega arith) (omega arith)) ∙ runs_from_gap items at n (omega arith) (λ k l m. f k l (omega arith)))

pub runs_from_next : (items : List Bool) (at e : ℕ) → at ≤ e → e ≤ length items → ((k : ℕ) → at ≤ k → k < e → get_or items k false ≡ false) → runs_from items e ≡ runs_from items at
runs_from_next items at e l h f =
    let is : at + (e - at) ≡ e = omega arith in
    ap (runs_from items) (sym is) ∙ runs_from_gap items at (e - at) (omega arith) (λ k a b. f k a (omega arith))

-- at the end no run is left
pub runs_from_end : (items : List Bool) (at : ℕ) → length items ≤ at → runs_from items at ≡ []
unfolding runs
runs_from_end items at h = ap (λ xs. map (shift_run at) (runs xs)) (drop_all at items h)

with_true-moved : (ps : List (ℕ × ℕ)) → with_true (map (shift_run 1) ps) ≡ (0, 1) ∷ map (shift_run 1) (map (shift_run 1) ps)
with_true-moved [] = refl
with_true-moved (p ∷ ps) = let e : 1 + p.0 ≡ suc p.0 = omega arith in rw e refl

trues_run : (n : ℕ) (xs : List Bool) → ((k : ℕ) → k < suc n → get_or xs k false ≡ true) → get_or xs (suc n) false ≡ false → runs xs ≡ (0, suc n) ∷ map (shift_run (suc n)) (runs (drop (suc n) xs))
unfolding runs
trues_run n [] h e = absurd (true≢false (sym (h 0 (omega arith))))
trues_run n (false ∷ xs) h e = absurd (true≢false (sym (h 0 (omega arith))))
trues_run zero (true ∷ []) h e = refl
trues_run zero (true ∷ true ∷ xs) h e = absurd (true≢false e)
trues_run zero (true ∷ false ∷ xs) h e = with_true-moved (runs xs)
trues_run (suc n) (true ∷ xs) h e =
    let one : 1 + suc n ≡ suc (suc n) = omega arith in
    rw (trues_run n xs (λ k l. h (suc k) (omega arith)) e) (ap (λ ps. (0, suc (suc n)) ∷ ps) (moved-moved 1 (suc n) (runs (drop (suc n) xs)) ∙ ap (λ t. map (shift_run t) (runs (drop (suc n) xs))) one))

-- a run is taken
runs_from_run : (items : List Bool) (at n : ℕ) → 0 < n → ((k : ℕ) → at ≤ k → k < at + n → get_or items k false ≡ true) → get_or items (at + n) false ≡ false → runs_from items at ≡ (at, n) ∷ runs_from items (at + n)
runs_from_run items at zero p h e = absurd (omega arith)
runs_from_run items at (suc n) p h e =
    let first = trues_run n (drop at items) (λ k l. get_or-drop at items k false ∙ h (at + k) (omega arith) (omega arith)) (get_or-drop at items (suc n) false ∙ e) in
    let rest : map (shift_run at) (map (shift_run (suc n)) (runs (drop (suc n) (drop at items)))) ≡ runs_from items (at + suc n) =
    moved-moved at (suc n) (runs (drop (suc n) (drop at items))) ∙ ap (λ xs. map (shift_run (at + suc n)) (runs xs)) (drop-drop (suc n) at items) in
    let here : at + 0 ≡ at = omega arith in
    ap (map (shift_run at)) first ∙ (rw here (ap (λ ps. (at, suc n) ∷ ps) rest))

-- the same, by where the run ends
pub runs_from_until : (items : List Bool) (at e : ℕ) → at < e → ((k : ℕ) → at ≤ k → k < e → get_or items k false ≡ true) → get_or items e false ≡ false → runs_from items at ≡ (at, e - at) ∷ runs_from items e
runs_from_until items at e l h f =
    let i : at + (e - at) ≡ e = omega arith in
    let r = runs_from_run items at (e - at) (omega arith) (λ k a b. h k a (omega arith)) (ap (λ t. get_or items t false) i ∙ f) in
    r ∙ ap (λ t. (at, e - at) ∷ runs_from items t) i

-- the same at the end of the list, where no item is after the run
pub runs_from_last : (items : List Bool) (at e : ℕ) → at < e → length items ≤ e → ((k : ℕ) → at ≤ k → k < e → get_or items k false ≡ true) → runs_from items at ≡ (at, e - at) ∷ runs_from items e
runs_from_last items at e p l h = runs_from_until items at e p h (get_or_past items e false l)
