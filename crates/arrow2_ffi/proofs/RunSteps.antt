-- Runs written one by one.
use Rattle.std.proofs.Common.{◌≡◌, ℕ, zero, suc, ◌+◌, ◌-◌, ◌*◌, ◌<◌, ◌≤◌, List, [], ◌∷◌, ◌++◌, Bool, true, false, length, take, set, ap, sym, ◌∙◌, refl, arith, add-one, zip, append_assoc}
use Rattle.arrow2_model.specs.Lists.{bits, part}
use Rattle.arrow2_walks.specs.Runs.{runs_from}
use Rattle.arrow2_walks.specs.Cursor.{IsFirst}
use Rattle.arrow2_walks.proofs.TakenRuns.{next_run, no_run, none_at_end}

zip_next : (xs ys : List ℕ) (k x y : ℕ) → k < length xs → k < length ys → zip (take (suc k) (set xs k x)) (take (suc k) (set ys k y)) ≡ zip (take k xs) (take k ys) ++ (x, y) ∷ []
zip_next [] ys k x y h i = absurd (omega (arith, h))
zip_next (a ∷ xs) [] k x y h i = absurd (omega (arith, i))
zip_next (a ∷ xs) (b ∷ ys) zero x y h i = refl
zip_next (a ∷ xs) (b ∷ ys) (suc k) x y h i = ap (λ (ps : List (ℕ × ℕ)). (a, b) ∷ ps) (zip_next xs ys k x y (omega (arith, h)) (omega (arith, i)))

-- one pair more
pub zip_more : (xs ys : List ℕ) (k x y : ℕ) → k < length xs → k < length ys → zip (take (k + 1) (set xs k x)) (take (k + 1) (set ys k y)) ≡ zip (take k xs) (take k ys) ++ (x, y) ∷ []
zip_more xs ys k x y h i = rw add-one (zip_next xs ys k x y h i)

-- one run more
pub run_more : (bytes : List ℕ) (offset end first at p q k : ℕ) (starts lengths : List ℕ) → offset + end ≤ 8 * length bytes → k < length starts → k < length lengths
    → zip (take k starts) (take k lengths) ++ runs_from (part (bits bytes) offset end) at ≡ runs_from (part (bits bytes) offset end) first
    → IsFirst (bits bytes) offset at end true p → (p ≡ end → ⊥) → IsFirst (bits bytes) offset p end false q
    → zip (take (k + 1) (set starts k p)) (take (k + 1) (set lengths k (q - p))) ++ runs_from (part (bits bytes) offset end) q ≡ runs_from (part (bits bytes) offset end) first
run_more bytes offset end first at p q k starts lengths inside h i done set_first some unset_first =
    let items : List Bool = part (bits bytes) offset end in
    let written : List (ℕ × ℕ) = zip (take k starts) (take k lengths) in
    ap (λ (ps : List (ℕ × ℕ)). ps ++ runs_from items q) (zip_more starts lengths k p (q - p) h i)
    ∙ (append_assoc written ((p, q - p) ∷ []) (runs_from items q)
    ∙ (ap (λ (ps : List (ℕ × ℕ)). written ++ ps) (sym (next_run bytes offset end at p q inside set_first some unset_first)) ∙ done))

-- no run is left, so the end will do as well
pub run_last : (bytes : List ℕ) (offset end first at p : ℕ) (written : List (ℕ × ℕ)) → offset + end ≤ 8 * length bytes
    → written ++ runs_from (part (bits bytes) offset end) at ≡ runs_from (part (bits bytes) offset end) first
    → IsFirst (bits bytes) offset at end true p → p ≡ end
    → written ++ runs_from (part (bits bytes) offset end) end ≡ runs_from (part (bits bytes) offset end) first
run_last bytes offset end first at p written inside done set_first e =
    ap (λ (ps : List (ℕ × ℕ)). written ++ ps) (none_at_end bytes offset end end inside refl ∙ sym (no_run bytes offset end at p inside set_first e)) ∙ done
