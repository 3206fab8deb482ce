-- Which fields of a schema are kept.
use Rattle.std.specs.Prelude.{◌≡◌, ◌<◌, ℕ, List, Bool, length, map, filter, slice_index_or}
use Rattle.std.specs.List.{enumerate_from}
use denote.Ref.{Bor}
use Rattle.arrow2_datatypes.specs.declared.field.Field.{Field}

-- a predicate may be called with each index of a list and the field at that index
abbrev pub IsCallableWithFields : (ℕ → Bor Field → Type 0) → List Field → Type 0
IsCallableWithFields may fields = (index : ℕ) (field : Bor Field) → index < length fields → slice_index_or fields index field.now ≡ field.now → may index field

-- every result of a predicate for an index of a list and the field at that index is the result of `accepts`
abbrev pub ReturnsOnFields : List Field → (ℕ → Bor Field → Bool → Type 0) → (ℕ → Field → Bool) → Type 0
ReturnsOnFields fields results accepts = (index : ℕ) (field : Bor Field) (answer : Bool) → index < length fields → slice_index_or fields index field.now ≡ field.now → results index field answer → answer ≡ accepts index field.now

-- the items for which `accepts` is true, given the index of the item and the item, in order
abbrev pub filter_indexed : {X : Type 0} → (ℕ → X → Bool) → List X → List X
filter_indexed {X} accepts items = map (λ (p : ℕ × X). p.1) (filter (λ p. accepts p.0 p.1) (enumerate_from 0 items))
