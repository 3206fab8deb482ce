-- The runs of a part of the bits, by the first indices that are set and not set.
use Rattle.std.proofs.Common.{◌≡◌, ℕ, ◌+◌, ◌-◌, ◌*◌, ◌<◌, ◌≤◌, inl, inr, List, [], ◌∷◌, true, false, length, get_or, sym, ap, ◌∙◌, arith}
use Rattle.std.proofs.lemmas.Bool.{true≢false, cases_lt}
use Rattle.arrow2_model.specs.Lists.{bits, part}
use Rattle.arrow2_walks.specs.Runs.{runs_from}
use Rattle.arrow2_model.proofs.Parts.{get_or-part}
use Rattle.arrow2_walks.proofs.RunSteps.{runs_from_start, runs_from_next, runs_from_end, runs_from_until, runs_from_last}
use Rattle.arrow2_model.proofs.Cursors.{length-part_bits}
use Rattle.arrow2_walks.specs.Cursor.{IsFirst}

module _ (bytes : List ℕ) (offset end : ℕ) where
  -- up to the first set bit no run is passed
  passed : (at p : ℕ) → offset + end ≤ 8 * length bytes → IsFirst (bits bytes) offset at end true p → runs_from (part (bits bytes) offset end) p ≡ runs_from (part (bits bytes) offset end) at
  passed at p h f =
      let l = length-part_bits bytes offset end h in
      let w = f.within in
      runs_from_next (part (bits bytes) offset end) at p f.from (omega (arith, l, w)) (λ k a b. get_or-part (bits bytes) offset end k false (omega (arith, w, b)) ∙ f.others k a b)

  -- no bit is set any more
  pub no_run : (at p : ℕ) → offset + end ≤ 8 * length bytes → IsFirst (bits bytes) offset at end true p → p ≡ end → runs_from (part (bits bytes) offset end) at ≡ []
  no_run at p h f e =
      let l = length-part_bits bytes offset end h in
      sym (passed at p h f) ∙ runs_from_end (part (bits bytes) offset end) p (omega (arith, l, e))

  pub none_at_end : (p : ℕ) → offset + end ≤ 8 * length bytes → p ≡ end → runs_from (part (bits bytes) offset end) p ≡ []
  none_at_end p h e = let l = length-part_bits bytes offset end h in runs_from_end (part (bits bytes) offset end) p (omega (arith, l, e))

  run_from : (p q : ℕ) → offset + end ≤ 8 * length bytes → p < q → IsFirst (bits bytes) offset p end false q → (q ≡ end → runs_from (part (bits bytes) offset end) p ≡ (p, q - p) ∷ runs_from (part (bits bytes) offset end) q) × (q < end → runs_from (part (bits bytes) offset end) p ≡ (p, q - p) ∷ runs_from (part (bits bytes) offset end) q)
  run_from p q h l f =
      let n = length-part_bits bytes offset end h in
      let w = f.within in
      let set : (k : ℕ) → p ≤ k → k < q → get_or (part (bits bytes) offset end) k false ≡ true = λ k a b. get_or-part (bits bytes) offset end k false (omega (arith, w, b)) ∙ f.others k a b in
      (λ e. runs_from_last (part (bits bytes) offset end) p q l (omega (arith, n, e)) set, λ m. runs_from_until (part (bits bytes) offset end) p q l set (get_or-part (bits bytes) offset end q false m ∙ f.there m))

  -- the item there is set, so the first one that is not set is after it
  following : (p q : ℕ) → p < end → get_or (bits bytes) (offset + p) false ≡ true → IsFirst (bits bytes) offset p end false q → p < q
  following p q m s f = let a = f.from in elim (cases_lt p q) [
    | inl l ↦ l
    | inr g ↦ let e : q ≡ p = omega (arith, a, g) in absurd (true≢false (sym s ∙ (ap (λ t. get_or (bits bytes) (offset + t) false) (sym e) ∙ f.there (omega (arith, e, m)))))
  ]

  -- the next run
  pub next_run : (at p q : ℕ) → offset + end ≤ 8 * length bytes → IsFirst (bits bytes) offset at end true p → (p ≡ end → ⊥) → IsFirst (bits bytes) offset p end false q → runs_from (part (bits bytes) offset end) at ≡ (p, q - p) ∷ runs_from (part (bits bytes) offset end) q
  next_run at p q h f some g =
      let w = f.within in let v = g.within in
      let m : p < end = elim (cases_lt p end) [
        | inl l ↦ l
        | inr l ↦ let e : p ≡ end = omega (arith, w, l) in absurd (some e)
      ] in
      let l = following p q m (f.there m) g in
      let r = run_from p q h l g in
      sym (passed at p h f) ∙ elim (cases_lt q end) [
        | inl less ↦ r.1 less
        | inr last ↦ r.0 (omega (arith, v, last))
      ]

  -- fewer are left after it
  pub fewer_runs : (at p q : ℕ) → offset + end ≤ 8 * length bytes → IsFirst (bits bytes) offset at end true p → (p ≡ end → ⊥) → IsFirst (bits bytes) offset p end false q → length (runs_from (part (bits bytes) offset end) q) < length (runs_from (part (bits bytes) offset end) at)
  fewer_runs at p q h f some g = let l = ap length (next_run at p q h f some g) in omega (arith, l)

pub ruleset taking_runs = (runs_from_start, no_run, none_at_end, next_run, fewer_runs)
