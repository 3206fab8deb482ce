-- A bitmap in pieces, and the number of reads of its cuts.
use Rattle.std.specs.Prelude.{ℕ, zero, suc, ◌+◌, ◌-◌, ◌*◌, ◌≤◌, ◌<◌, List, [], ◌∷◌, Bool, length, map, take, drop, slice_index_or, flat_map}
use Rattle.arrow2_model.specs.Lists.{BitmapStorage, items_of}
use Rattle.arrow2_model.specs.Touched.{cut_budget, total_cut_budget}

-- a piece: its items, the bytes that store them, and the bit at which they begin
pub record Piece : Type 0 where
  pub items : List Bool
  pub bytes : List ℕ
  pub offset : ℕ

-- the pieces, and the number of bytes that were counted as read for their false items
pub record CutPieces : Type 0 where
  pub pieces : List Piece
  pub reads : ℕ

-- a bitmap as a piece
abbrev pub piece_of : BitmapStorage → Piece
piece_of b = record { items = items_of b; bytes = b.bytes; offset = b.offset }

-- piece k
abbrev pub piece_at : List Piece → ℕ → Piece
piece_at ps k = slice_index_or ps k (record { items = []; bytes = []; offset = 0 })

-- the items of all pieces, one piece after the other
abbrev pub all_items : List Piece → List Bool
all_items ps = flat_map (λ p. p.items) ps

-- a piece's first i items, stored at its bit; and its other items, stored i bits further on: both over its bytes
abbrev pub front : Piece → ℕ → Piece
front p i = record p { items = take i p.items }

abbrev pub back : Piece → ℕ → Piece
back p i = record p { items = drop i p.items; offset = p.offset + i }

-- the pieces with piece k cut in two at its item i
abbrev pub cut_at : List Piece → ℕ → ℕ → List Piece
cut_at [] k i = []
cut_at (p ∷ ps) zero i = front p i ∷ back p i ∷ ps
cut_at (p ∷ ps) (suc k) i = p ∷ cut_at ps k i

-- the number of items of each piece
abbrev pub lengths : List Piece → List ℕ
lengths ps = map (λ p. length p.items) ps

-- 8 times the number of bytes read so far, plus `total_cut_budget` of the pieces, is at most `cut_budget` of the whole
-- plus 30 for each cut
pub record IsWithinBudget (ps : List Piece) (reads : ℕ) : Type 0 where
  pub some : 0 < length ps
  pub paid : 8 * reads + total_cut_budget (lengths ps) ≤ cut_budget (length (all_items ps)) + 30 * (length ps - 1)
