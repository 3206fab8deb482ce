-- Lists that are stored: the bits of bytes, parts of lists, words, canonical bytes, and the models of bitmaps and of
-- buffers (Arrow columnar format, "Validity bitmaps": slot j is bit j % 8 of byte j / 8, from the least significant
-- bit on).
use Rattle.std.specs.Prelude.{ℕ, zero, suc, ◌+◌, ◌/◌, ◌%◌, ◌^◌, ◌==◌, List, [], ◌∷◌, Bool, if◌then◌else◌, not, take, drop, count_by, ◌≡◌, ◌-◌, ◌*◌, ◌++◌, map, length, Option, MatchOption, ◌<◌, ◌≤◌, false, slice_index_or}
use Rattle.std.specs.List.{flat_map, range_with_len}
use Rattle.std.specs.Int.{div_ceil}
use Rattle.std.specs.Iterator.{YieldsFirstBy}
-- the number of a list of booleans: the sum of 2 ^ i over the indices i of its true items
pub use lib.Lanes.{mask_l as num}

-- ---- bits of numbers and of bytes, the lowest first

-- whether bit i of a number is 1
unfoldable pub bit : ℕ → ℕ → Bool
bit x zero = x % 2 == 1
bit x (suc i) = bit (x / 2) i

-- the w lowest bits of a number, the lowest first: the one list of w booleans whose number is x, where x < 2 ^ w
unfoldable pub unnum : ℕ → ℕ → List Bool
unnum zero x = []
unnum (suc w) x = (x % 2 == 1) ∷ unnum w (x / 2)

-- the bits of each byte in turn: eight booleans a byte
unfoldable pub bits : List ℕ → List Bool
bits bytes = flat_map (unnum 8) bytes

-- the sum of 2 ^ i over the indices i of the true items, where the first item has index k
abbrev pub sum_of_powers : ℕ → List Bool → ℕ
sum_of_powers k [] = 0
sum_of_powers k (item ∷ items) = (if item then 2 ^ k else 0) + sum_of_powers (k + 1) items

-- ---- parts of lists, and counts of their false items

-- the n items of a list from item a on: the list of a slice of a buffer or a bitmap
abbrev pub part : {X : Type 0} → List X → ℕ → ℕ → List X
part items a n = take n (drop a items)

-- the number of false items: the null count of a validity bitmap (Arrow columnar format, "Null count")
abbrev pub falses : List Bool → ℕ
falses items = count_by not items

-- ---- a list of booleans as words of some width, the last one filled with false

-- word j of a list: item j of its `words`, or 0 past the last word
abbrev pub word : ℕ → List Bool → ℕ → ℕ
word w items j = num (part items (w * j) w)

-- the number of each w items in turn; items past the end count as false
abbrev pub words : ℕ → List Bool → List ℕ
words w items = map (λ j. num (part items (w * j) w)) (range_with_len 0 (div_ceil (length items) w))

-- the full words: those of w items each
unfoldable pub full_words : ℕ → List Bool → List ℕ
full_words w items = take (length items / w) (words w items)

-- the items after the full words, fewer than w
unfoldable pub rest : ℕ → List Bool → List Bool
rest w items = drop (w * (length items / w)) items

-- an iterator by words: the items still to come, including the rest after the full words, and the value of the word in
-- which the rest is stored, whose bits above the rest may be any bits
pub record WordCursor : Type 0 where
  pub items : List Bool
  pub spill : ℕ

-- the effect of one step on the items: where a word comes, its bits are the first items, and the other items are left;
-- where no word comes, the items are the rest alone
abbrev pub PassesItems : {A : Type 0} → ℕ → (A → ℕ) → List Bool → Option A → List Bool → Type 0
PassesItems w number items r left = MatchOption r (rest w items ≡ items) (λ x. items ≡ unnum w (number x) ++ left)

-- one step of an iterator by words: the first full word comes, and neither the rest nor the spill changes
pub record GivesWord {S A : Type 0} (w : ℕ) (number : A → ℕ) (cursor : S → WordCursor) (s : S) (r : Option A) (t : S) : Type 0 where
  pub word : YieldsFirstBy number (λ (c : S). full_words w (cursor c).items) s r t
  pub items : PassesItems w number (cursor s).items r (cursor t).items
  pub rest : rest w (cursor t).items ≡ rest w (cursor s).items
  pub spill : (cursor t).spill ≡ (cursor s).spill

-- the bytes in which the rest of len bits from bit offset on is stored, for words of k bytes each. Where there is a
-- full word, these are the bytes after the full words, up to the byte that holds the last bit; where there is none,
-- these are all bytes from the one that holds the first bit on
abbrev pub spilled_bytes : ℕ → List ℕ → ℕ → ℕ → List ℕ
spilled_bytes k bytes offset len =
    let following = drop (offset / 8) bytes in
    let full = len / 8 / k in
    if full == 0 then following else part following (full * k) ((len + offset % 8 + 7) / 8 - full * k)

-- the number of the 8 * k bits of these bytes from bit offset % 8 on, where bits past the bytes count as false
unfoldable pub spill : ℕ → List ℕ → ℕ → ℕ → ℕ
spill k bytes offset len = num (part (bits (spilled_bytes k bytes offset len)) (offset % 8) (8 * k))

-- the same where the items begin at bit 0, and the bytes after the one that holds the last item are left out
unfoldable pub exact_spill : ℕ → List ℕ → ℕ → ℕ
exact_spill k bytes len =
    let full = len / 8 / k in
    num (bits (part bytes (full * k) ((len + 7) / 8 - full * k)))

-- ---- the one list of bytes that stands for a list of booleans: no spare byte, and every padding bit false

-- each eight items in turn as a byte, the last byte filled with false
unfoldable pub canonical_bytes : List Bool → List ℕ
canonical_bytes items = words 8 items

-- exactly the bytes that n bits need, and no bit set after the first n
pub record IsCanonical (bytes : List ℕ) (n : ℕ) : Type 0 where
  pub fits : (k : ℕ) → slice_index_or bytes k 0 < 256
  pub exact : length bytes ≡ (n + 7) / 8
  pub clear : (k : ℕ) → n ≤ k → slice_index_or (bits bytes) k false ≡ false

-- ---- bitmaps

-- a bitmap over stored bytes: the bytes, the bit at which its items begin, and the number of items
pub record BitmapStorage : Type 0 where
  pub bytes : List ℕ
  pub offset : ℕ
  pub len : ℕ

-- the items of a bitmap: the list that it is to every call that doesn't show storage
abbrev pub items_of : BitmapStorage → List Bool
items_of b = part (bits b.bytes) b.offset b.len

-- word j of the items of a bitmap, w bits a word
abbrev pub bitmap_word : ℕ → BitmapStorage → ℕ → ℕ
bitmap_word w b j = word w (items_of b) j

-- a bitmap that grows: its items, and its capacity, the number of items that fit before it allocates
pub record GrowingBitmap : Type 0 where
  pub items : List Bool
  pub capacity : ℕ

-- ---- buffers

-- a buffer: the stored list, the index of the buffer's first item in it, and the number of items of the buffer
pub record BufferStorage (X : Type 0) : Type 0 where
  pub storage : List X
  pub offset : ℕ
  pub len : ℕ

-- the items of a buffer: the list that it is to every call that doesn't show storage
abbrev pub buffer_items : {X : Type 0} → BufferStorage X → List X
buffer_items b = part b.storage b.offset b.len

-- the buffer of a whole list: nothing is sliced off
abbrev pub whole_buffer : {X : Type 0} → List X → BufferStorage X
whole_buffer items = record { storage = items; offset = 0; len = length items }

-- a list after its items from index i on were overwritten by others, which are meant to end at or before its end
abbrev pub overwrite : {X : Type 0} → List X → ℕ → List X → List X
overwrite items i others = take i items ++ (others ++ drop (length others) (drop i items))
