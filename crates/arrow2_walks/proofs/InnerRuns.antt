-- The runs of a list lie inside it.
use Rattle.std.proofs.Common.{ℕ, zero, suc, ◌+◌, ◌-◌, ◌<◌, ◌≤◌, inl, inr, List, [], ◌∷◌, Bool, false, length, get_or, sym, ◌∙◌, arith}
use Rattle.std.proofs.lemmas.Bool.{true≢false, cases_lt}
use Rattle.std.proofs.lemmas.List.{get_or_past}
use Rattle.arrow2_walks.specs.Runs.{IsRun, AllRuns, runs}
use Rattle.arrow2_walks.proofs.MaximalRuns.{runs_are}

run_inside : (items : List Bool) (p : ℕ × ℕ) → IsRun items p → p.0 + p.1 ≤ length items
run_inside items p run = elim (cases_lt (length items) (p.0 + p.1)) [
  | inl past ↦
      let some = run.some in
      absurd (true≢false (sym (run.set (p.1 - 1) (omega (arith, some))) ∙ get_or_past items (p.0 + (p.1 - 1)) false (omega (arith, some, past))))
  | inr within ↦ within
]

each_inside : (items : List Bool) (ps : List (ℕ × ℕ)) → AllRuns items ps → (k : ℕ) (d : ℕ × ℕ) → k < length ps → (get_or ps k d).0 + (get_or ps k d).1 ≤ length items
each_inside items [] all k d l = absurd (omega (arith, l))
each_inside items (p ∷ ps) all zero d l = run_inside items p all.0
each_inside items (p ∷ ps) all (suc k) d l = each_inside items ps all.1 k d (omega (arith, l))

pub runs_inside : (items : List Bool) (k : ℕ) (d : ℕ × ℕ) → k < length (runs items) → (get_or (runs items) k d).0 + (get_or (runs items) k d).1 ≤ length items
runs_inside items k d l = each_inside items (runs items) (runs_are items).maximal k d l
