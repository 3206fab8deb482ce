-- Values in blocks, each with the word of a mask.
use Rattle.std.specs.Prelude.{◌≡◌, ◌⊎◌, ℕ, ◌+◌, ◌-◌, ◌<◌, ◌≤◌, List, [], ◌++◌, Bool, false, length, take, drop, replicate}
use Rattle.arrow2_model.specs.Lists.{unnum}
use Rattle.arrow2_walks.specs.Selections.{selection}

-- the blocks still to come: their values, and the items of the mask for these values
pub record BlocksLeft (X : Type 0) : Type 0 where
  pub values : List X
  pub mask : List Bool

-- the values still to come that the mask selects
abbrev pub selected_left : {X : Type 0} → BlocksLeft X → List X
selected_left s = selection s.values s.mask

-- one step of such an iterator: a block of values comes first, with the word of the mask
pub record IsNextBlock {X : Type 0} (s : BlocksLeft X) (block : List X) (word : ℕ) (t : BlocksLeft X) : Type 0 where
  -- the block has 64 values, or, if it is the last one, 1 to 64
  pub some : 0 < length block
  pub few : length block ≤ 64
  pub full : (length block ≡ 64) ⊎ (t.values ≡ [])
  -- it is the first of the values
  pub values : s.values ≡ block ++ t.values
  pub count : length s.values ≡ length block + length t.values
  -- the bits of the word are the items of the mask for the block, then zeros
  pub bits : unnum 64 word ≡ take (length block) s.mask ++ replicate (64 - length block) false
  pub mask : t.mask ≡ drop (length block) s.mask
  -- so the mask selects what the word selects of the block, and then what it selects of the other blocks
  pub selected : selected_left s ≡ selection block (unnum 64 word) ++ selected_left t
