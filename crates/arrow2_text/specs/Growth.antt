-- The contracts of growth of arrays of byte strings and of texts.
use Rattle.std.specs.Prelude.{◌≡◌, ℕ, ◌+◌, ◌*◌, ◌<◌, ◌≤◌, ◌^◌, ◌↔◌, ◌⊎◌, List, [], ◌∷◌, ◌++◌, Bool, false, Option, None, length, map, replicate, sum, slice_index_or, option_map, MatchOption, IfNone, IfSome, Result, OnOk, OnErr, IsOk, IfOk, IsErrOf}
use Rattle.std.specs.Option.{is_some, option_copied, option_map_or, unwrap_or}
use Rattle.std.specs.Iterator.{Yields}
use Rattle.std.specs.Borrow.{Bor}
use Rattle.arrow2_types.specs.declared.error.Error.{Error}
use Rattle.arrow2_types.specs.declared.error.Error.TheVariants.{Overflow}
use Rattle.arrow2_types.specs.Failures.{OnlyOutOfMemory, OnlyOverflowOrOutOfMemory}
use Rattle.arrow2_walks.specs.Zipped.{slot, zipped}
use Rattle.either.specs.Either.{MatchEither}
use Rattle.either.specs.declared.Either.{Either}
use Rattle.arrow2_model.specs.Lists.{buffer_items}
use Rattle.arrow2_datatypes.specs.declared.DataType.{DataType}
use Rattle.arrow2_validity.specs.OptionalValidity.{valid_items}
use Rattle.arrow2_text.specs.Binary.{BinaryParts}

-- an array that grows: its logical type, its items, the number of bytes of their slots, under nulls too, and its
-- capacities, the number of items and the number of bytes that fit before it allocates
pub record GrowingBinary : Type 0 where
  pub data_type : DataType
  pub items : List (Option (List ℕ))
  pub bytes : ℕ
  pub capacity : ℕ
  pub byte_capacity : ℕ

-- the same, where the bytes under nulls are seen too
pub record GrowingSlots : Type 0 where
  pub data_type : DataType
  pub values : List (List ℕ)
  pub valid : List Bool
  pub bytes : ℕ
  pub capacity : ℕ
  pub byte_capacity : ℕ

-- the `GrowingBinary` that slots stand for, in which the bytes under nulls are not seen
abbrev pub growing_binary : GrowingSlots → GrowingBinary
growing_binary s = record {
  data_type = s.data_type;
  items = zipped s.values s.valid;
  bytes = s.bytes;
  capacity = s.capacity;
  byte_capacity = s.byte_capacity;
}

-- slots that grow have these values, this validity, this number of bytes and this logical type
abbrev pub AreGrowingSlots : GrowingSlots → List (List ℕ) → List Bool → ℕ → DataType → Type 0
AreGrowingSlots g values valid bytes data_type = (g.values ≡ values) × (g.valid ≡ valid) × (g.bytes ≡ bytes) × (g.data_type ≡ data_type)

-- slots as they were, or growing slots with their values, which are these, their validity and their logical type
abbrev pub AreThawed : Either BinaryParts GrowingSlots → BinaryParts → List (List ℕ) → Type 0
AreThawed r slots values = MatchEither r (λ same. same ≡ slots) (λ growing. AreGrowingSlots growing values (valid_items slots.validity) (length (buffer_items slots.values)) slots.data_type)

-- growth by these items, all of them or none: their slots have `bytes` bytes together, and the last offset may be at
-- most `greatest`
pub record AppendsBinary {T : Type 0} (greatest : ℕ) (r : Result T Error) (old new : GrowingBinary) (more : List (Option (List ℕ))) (bytes : ℕ) : Type 0 where
  -- the new ones come after the old ones
  pub ok : OnOk r (new.items ≡ old.items ++ more)
  pub ok_bytes : OnOk r (new.bytes ≡ old.bytes + bytes)
  -- an error leaves the items
  pub err : OnErr r (new.items ≡ old.items)
  pub err_bytes : OnErr r (new.bytes ≡ old.bytes)
  -- the logical type stays
  pub data_type : new.data_type ≡ old.data_type
  -- the last offset is at most `greatest`
  pub fits : old.bytes ≤ greatest
  -- `Overflow` comes exactly where the last offset would pass `greatest`, or there would be more items than a usize
  -- counts
  pub overflow : IsErrOf r Overflow ↔ ((greatest < old.bytes + bytes) ⊎ (2 ^ 64 ≤ length old.items + length more))
  -- the only other error is running out of memory
  pub only : OnlyOverflowOrOutOfMemory r
  -- within both capacities and `greatest` it succeeds
  pub succeeds : length old.items + length more ≤ old.capacity → old.bytes + bytes ≤ old.byte_capacity → old.bytes + bytes ≤ greatest → IsOk r
  -- no capacity falls
  pub capacity : old.capacity ≤ new.capacity
  pub byte_capacity : old.byte_capacity ≤ new.byte_capacity

-- the same, by slots and their validity
pub record AppendsSlots {T : Type 0} (greatest : ℕ) (r : Result T Error) (old new : GrowingSlots) (values : List (List ℕ)) (valid : List Bool) (bytes : ℕ) : Type 0 where
  -- the validity has an item for each slot
  pub same : length old.valid ≡ length old.values
  -- the new ones come after the old ones
  pub ok_values : OnOk r (new.values ≡ old.values ++ values)
  pub ok_valid : OnOk r (new.valid ≡ old.valid ++ valid)
  pub ok_bytes : OnOk r (new.bytes ≡ old.bytes + bytes)
  -- an error leaves the slots
  pub err_values : OnErr r (new.values ≡ old.values)
  pub err_valid : OnErr r (new.valid ≡ old.valid)
  pub err_bytes : OnErr r (new.bytes ≡ old.bytes)
  -- the logical type stays
  pub data_type : new.data_type ≡ old.data_type
  -- the last offset is at most `greatest`
  pub fits : old.bytes ≤ greatest
  -- `Overflow` comes exactly where the last offset would pass `greatest`, or there would be more slots than a usize
  -- counts
  pub overflow : IsErrOf r Overflow ↔ ((greatest < old.bytes + bytes) ⊎ (2 ^ 64 ≤ length old.valid + length valid))
  -- the only other error is running out of memory
  pub only : OnlyOverflowOrOutOfMemory r
  -- within both capacities and `greatest` it succeeds
  pub succeeds : length old.valid + length valid ≤ old.capacity → old.bytes + bytes ≤ old.byte_capacity → old.bytes + bytes ≤ greatest → IsOk r
  -- no capacity falls
  pub capacity : old.capacity ≤ new.capacity
  pub byte_capacity : old.byte_capacity ≤ new.byte_capacity

-- reserving capacity for `count` more slots and `size` more bytes: the slots stay, and the last offset may become at
-- most `greatest`
pub record ReservesSlots {T : Type 0} (greatest : ℕ) (r : Result T Error) (old new : GrowingSlots) (count size : ℕ) : Type 0 where
  -- the validity has an item for each slot
  pub same : length old.valid ≡ length old.values
  pub values : new.values ≡ old.values
  pub valid : new.valid ≡ old.valid
  pub bytes : new.bytes ≡ old.bytes
  pub data_type : new.data_type ≡ old.data_type
  -- the last offset is at most `greatest`
  pub fits : old.bytes ≤ greatest
  pub ok : OnOk r (length old.valid + count ≤ new.capacity)
  pub ok_bytes : OnOk r (old.bytes + size ≤ new.byte_capacity)
  -- `Overflow` comes exactly where the last offset would pass `greatest`, or there would be more slots than a usize
  -- counts
  pub overflow : IsErrOf r Overflow ↔ ((greatest < old.bytes + size) ⊎ (2 ^ 64 ≤ length old.valid + count))
  -- the only other error is running out of memory
  pub only : OnlyOverflowOrOutOfMemory r
  -- within both capacities and `greatest` it succeeds
  pub succeeds : length old.valid + count ≤ old.capacity → old.bytes + size ≤ old.byte_capacity → old.bytes + size ≤ greatest → IsOk r
  -- no capacity falls
  pub capacity : old.capacity ≤ new.capacity
  pub byte_capacity : old.byte_capacity ≤ new.byte_capacity

-- the given slots and bytes more are within both capacities, a usize counts them, and the last offset is at most
-- `greatest`
pub record HasCapacityFor (greatest : ℕ) (held : GrowingSlots) (count size : ℕ) : Type 0 where
  pub slots : length held.valid + count ≤ held.capacity
  pub bytes : held.bytes + size ≤ held.byte_capacity
  pub counted : length held.valid + count < 2 ^ 64
  pub fits : held.bytes + size ≤ greatest

-- these slots come after the others, and no capacity falls
pub record GrownBySlots (old new : GrowingSlots) (more : List (List ℕ)) (more_valid : List Bool) (size : ℕ) : Type 0 where
  pub values : new.values ≡ old.values ++ more
  pub valid : new.valid ≡ old.valid ++ more_valid
  pub bytes : new.bytes ≡ old.bytes + size
  pub data_type : new.data_type ≡ old.data_type
  pub capacity : old.capacity ≤ new.capacity
  pub byte_capacity : old.byte_capacity ≤ new.byte_capacity

-- appending an item `count` times, all of them or none
abbrev pub AppendsCopies : {T : Type 0} → ℕ → Result T Error → GrowingSlots → GrowingSlots → ℕ → Option (List ℕ) → Type 0
AppendsCopies greatest r old new count item = AppendsSlots greatest r old new (replicate count (unwrap_or item [])) (replicate count (is_some item)) (count * option_map_or length item 0)

-- `count` slots of an item come after the others, and no capacity falls
abbrev pub GrownByCopies : GrowingSlots → GrowingSlots → ℕ → Option (List ℕ) → Type 0
GrownByCopies old new count item = GrownBySlots old new (replicate count (unwrap_or item [])) (replicate count (is_some item)) (count * option_map_or length item 0)

-- removing the last item: where it is not null, a copy of its bytes is returned
pub record PopsBinary {V : Type 0} (bytes_of : V → List ℕ) (r : Result (Option (Option V)) Error) (old new : GrowingBinary) : Type 0 where
  -- the removed one came after those that are left
  pub last : IfOk r (λ o. MatchOption o (old.items ≡ []) (λ item. old.items ≡ new.items ++ option_map bytes_of item ∷ []))
  -- `None` comes where there was none, and none is left
  pub none : IfOk r (λ o. IfNone o (new.items ≡ []))
  -- its bytes are gone; of a null it is stated only that there are no more bytes than before
  pub bytes : IfOk r (λ o. IfSome o (λ item. MatchOption item (new.bytes ≤ old.bytes) (λ value. old.bytes ≡ new.bytes + length (bytes_of value))))
  -- an error leaves the items
  pub err : OnErr r (new.items ≡ old.items)
  pub err_bytes : OnErr r (new.bytes ≡ old.bytes)
  -- the logical type and the capacities stay
  pub data_type : new.data_type ≡ old.data_type
  pub capacity : new.capacity ≡ old.capacity
  pub byte_capacity : new.byte_capacity ≡ old.byte_capacity
  -- the only error is running out of memory; it never comes where the last item is null, or where there is none
  pub only : OnlyOutOfMemory r
  pub succeeds : (front : List (Option (List ℕ))) → old.items ≡ front ++ None ∷ [] → IsOk r
  pub empty : old.items ≡ [] → IsOk r

-- the same, by slots and their validity
pub record PopsSlot {V : Type 0} (bytes_of : V → List ℕ) (r : Result (Option (Option V)) Error) (old new : GrowingSlots) : Type 0 where
  -- the validity has an item for each slot
  pub same : length old.valid ≡ length old.values
  pub same_left : length new.valid ≡ length new.values
  -- the removed one came after those that are left
  pub some : IfOk r (λ o. IfSome o (λ item. (value : List ℕ) × (valid : Bool) × (old.values ≡ new.values ++ value ∷ []) × (old.valid ≡ new.valid ++ valid ∷ []) × (old.bytes ≡ new.bytes + length value) × (option_map bytes_of item ≡ slot value valid)))
  -- `None` comes where there was none, and none is left
  pub none : IfOk r (λ o. IfNone o ((old.values ≡ []) × (new.values ≡ []) × (new.valid ≡ [])))
  -- an error leaves the slots
  pub err_values : OnErr r (new.values ≡ old.values)
  pub err_valid : OnErr r (new.valid ≡ old.valid)
  pub err_bytes : OnErr r (new.bytes ≡ old.bytes)
  -- the logical type and the capacities stay
  pub data_type : new.data_type ≡ old.data_type
  pub capacity : new.capacity ≡ old.capacity
  pub byte_capacity : new.byte_capacity ≡ old.byte_capacity
  -- the only error is running out of memory; it never comes where the last item is null, or where there is none
  pub only : OnlyOutOfMemory r
  pub succeeds : (front : List Bool) → old.valid ≡ front ++ false ∷ [] → IsOk r
  pub empty : old.values ≡ [] → IsOk r

-- the last slot is gone, with its bytes
pub record LosesLastSlot (old new : GrowingSlots) : Type 0 where
  pub same : length old.valid ≡ length old.values
  pub values : old.values ≡ new.values ++ slice_index_or old.values (length new.values) [] ∷ []
  pub valid : old.valid ≡ new.valid ++ slice_index_or old.valid (length new.values) false ∷ []
  pub same_left : length new.valid ≡ length new.values
  pub bytes : old.bytes ≡ new.bytes + length (slice_index_or old.values (length new.values) [])
  pub data_type : new.data_type ≡ old.data_type
  pub capacity : new.capacity ≡ old.capacity
  pub byte_capacity : new.byte_capacity ≡ old.byte_capacity

-- options of byte strings, each by its bytes
abbrev pub items_by_bytes : List (Option (Bor (List ℕ))) → List (Option (List ℕ))
items_by_bytes items = map option_copied items

-- the bytes of each item, and no bytes for a null
abbrev pub values_of_items : List (Option (List ℕ)) → List (List ℕ)
values_of_items items = map (λ item. unwrap_or item []) items

-- the number of bytes of items
abbrev pub bytes_of_items : List (Option (List ℕ)) → ℕ
bytes_of_items items = sum (map (λ item. option_map_or length item 0) items)

-- an array that grows holds these items, and no bytes but theirs
abbrev pub HasItems : GrowingBinary → List (Option (List ℕ)) → Type 0
HasItems a items = (a.items ≡ items) × (a.bytes ≡ bytes_of_items items)

-- an iterator may give items whose bytes pass the greatest offset, or more items than a usize counts
abbrev pub MayYieldPastOffset : {S X : Type 0} → (X → Option (List ℕ)) → ℕ → (S → Option X → S → Type 0) → S → Type 0
MayYieldPastOffset {S} {X} item greatest steps s = (xs : List X) × (t : S) × Yields steps s xs t × ((greatest < bytes_of_items (map item xs)) ⊎ (2 ^ 64 ≤ length xs))
