-- The results of a function of numbers or of items, as items.
use Rattle.std.specs.Prelude.{◌≡◌, ◌<◌, ℕ, List, Bool, length, slice_index_or}
use denote.Ref.{Bor}

-- every result for a number below n is that of test
abbrev pub ReturnsBelow : ℕ → (ℕ → Bool → Type 0) → (ℕ → Bool) → Type 0
ReturnsBelow n returns test = (index : ℕ) (result : Bool) → index < n → returns index result → result ≡ test index

module _ {X : Type 0} (items : List X) where
  -- a function may be called with each item of a list, by reference
  abbrev pub IsCallableWithEach : (Bor X → Type 0) → Type 0
  IsCallableWithEach may = (index : ℕ) (item : Bor X) → index < length items → slice_index_or items index item.now ≡ item.now → may item

  -- every result for an item of a list is that of test
  abbrev pub ReturnsOnEach : (Bor X → Bool → Type 0) → (X → Bool) → Type 0
  ReturnsOnEach returns test = (index : ℕ) (item : Bor X) (result : Bool) → index < length items → slice_index_or items index item.now ≡ item.now → returns item result → result ≡ test item.now

  -- the function may return this result for the item at an index
  pub record IsResultAt (returns : Bor X → Bool → Type 0) (index : ℕ) (result : Bool) : Type 0 where
    pub item : Bor X
    pub is_item : slice_index_or items index item.now ≡ item.now
    pub returned : returns item result

module _ {X Y : Type 0} (xs : List X) (ys : List Y) where
  -- the same for each item of one list and the item at the same index of the other list
  abbrev pub IsCallableWithPairs : (Bor X → Bor Y → Type 0) → Type 0
  IsCallableWithPairs may = (index : ℕ) (x : Bor X) (y : Bor Y) → index < length xs → slice_index_or xs index x.now ≡ x.now → slice_index_or ys index y.now ≡ y.now → may x y

  abbrev pub ReturnsOnPairs : (Bor X → Bor Y → Bool → Type 0) → (X → Y → Bool) → Type 0
  ReturnsOnPairs returns test = (index : ℕ) (x : Bor X) (y : Bor Y) (result : Bool) → index < length xs → slice_index_or xs index x.now ≡ x.now → slice_index_or ys index y.now ≡ y.now → returns x y result → result ≡ test x.now y.now

  pub record IsPairResultAt (returns : Bor X → Bor Y → Bool → Type 0) (index : ℕ) (result : Bool) : Type 0 where
    pub left : Bor X
    pub right : Bor Y
    pub is_left : slice_index_or xs index left.now ≡ left.now
    pub is_right : slice_index_or ys index right.now ≡ right.now
    pub returned : returns left right result
