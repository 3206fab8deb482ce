-- The runs of set bits of a list, each by its first index and its length.
use Rattle.std.specs.Prelude.{◌≡◌, ℕ, zero, suc, ◌+◌, ◌<◌, ◌≤◌, ◌⊎◌, List, [], ◌∷◌, Bool, true, false, map, get_or, drop}

-- p is a run that cannot grow: p.1 true items from index p.0 on, at least one, with no true item just before them and
-- none just after (an index past the end is false)
pub record IsRun (items : List Bool) (p : ℕ × ℕ) : Type 0 where
  pub some : 0 < p.1
  pub set : (k : ℕ) → k < p.1 → get_or items (p.0 + k) false ≡ true
  pub unset_before : (k : ℕ) → suc k ≡ p.0 → get_or items k false ≡ false
  pub unset_after : get_or items (p.0 + p.1) false ≡ false

-- each of ps is such a run
abbrev pub AllRuns : List Bool → List (ℕ × ℕ) → Type 0
AllRuns items [] = Unit {0}
AllRuns items (p ∷ ps) = IsRun items p × AllRuns items ps

-- the first run begins above e, and each later run above the end p.0 + p.1 of the run before it: so at least one index
-- lies between two runs
abbrev pub AreRisingPast : ℕ → List (ℕ × ℕ) → Type 0
AreRisingPast e [] = Unit {0}
AreRisingPast e (p ∷ ps) = (e < p.0) × AreRisingPast (p.0 + p.1) ps

abbrev pub AreRising : List (ℕ × ℕ) → Type 0
AreRising [] = Unit {0}
AreRising (p ∷ ps) = AreRisingPast (p.0 + p.1) ps

-- index k is in one of them
abbrev pub InRuns : ℕ → List (ℕ × ℕ) → Type 0
InRuns k [] = ⊥
InRuns k (p ∷ ps) = ((p.0 ≤ k) × (k < p.0 + p.1)) ⊎ InRuns k ps

-- ps are the runs of items: maximal ones, rising, and every true item is in one of them
pub record AreRuns (items : List Bool) (ps : List (ℕ × ℕ)) : Type 0 where
  pub maximal : AllRuns items ps
  pub rising : AreRising ps
  pub all : (k : ℕ) → get_or items k false ≡ true → InRuns k ps

-- a run, n indices further on
abbrev pub shift_run : ℕ → ℕ × ℕ → ℕ × ℕ
shift_run n p = (n + p.0, p.1)

-- the runs of `true ∷ items`, by the runs of `items`
abbrev pub with_true : List (ℕ × ℕ) → List (ℕ × ℕ)
with_true [] = (0, 1) ∷ []
with_true ((zero, n) ∷ ps) = (0, suc n) ∷ map (shift_run 1) ps
with_true ((suc s, n) ∷ ps) = (0, 1) ∷ map (shift_run 1) ((suc s, n) ∷ ps)

-- the runs of a list, rising: the one list that `AreRuns` describes
unfoldable pub runs : List Bool → List (ℕ × ℕ)
runs [] = []
runs (false ∷ items) = map (shift_run 1) (runs items)
runs (true ∷ items) = with_true (runs items)

-- the runs of the items from index `at` on, by their indices into the whole list
abbrev pub runs_from : List Bool → ℕ → List (ℕ × ℕ)
runs_from items at = map (shift_run at) (runs (drop at items))
