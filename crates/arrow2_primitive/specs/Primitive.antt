-- What contracts see of arrays of native values.
use Rattle.std.specs.Prelude.{ℕ, ◌+◌, List, Option, codes}
use Rattle.arrow2_model.specs.Lists.{BufferStorage, buffer_items}
use Rattle.arrow2_walks.specs.Zipped.{zipped}
use Rattle.arrow2_validity.specs.OptionalValidity.{OptionalValidity, valid_items, sliced_validity}
use Rattle.arrow2_datatypes.specs.declared.DataType.{DataType}

-- an array: its logical type, its values, and which of them are not null
pub record PrimitiveParts (X : Type 0) : Type 0 where
  pub data_type : DataType
  pub values : BufferStorage X
  pub validity : OptionalValidity

-- the items: each value that is not null, and None for the others
abbrev pub primitive_items : {X : Type 0} → PrimitiveParts X → List (Option X)
primitive_items a = zipped (buffer_items a.values) (valid_items a.validity)

-- the part of a buffer over the same storage
abbrev pub sliced_buffer : {X : Type 0} → BufferStorage X → ℕ → ℕ → BufferStorage X
sliced_buffer b offset n = record b { offset = b.offset + offset; len = n }

-- the n items from item `offset` on, over the same storage
abbrev pub sliced_primitive : {X : Type 0} → PrimitiveParts X → ℕ → ℕ → PrimitiveParts X
sliced_primitive a offset n = record {
  data_type = a.data_type;
  values = sliced_buffer a.values offset n;
  validity = sliced_validity a.validity offset n;
}

-- the message for a logical type with another layout
abbrev pub other_layout_message : List ℕ
other_layout_message = codes "PrimitiveArray can only be initialized with a DataType whose physical type is Primitive"

-- an array that grows: its logical type, its items, and its capacity, the number of items that fit before it allocates
pub record GrowingPrimitive (X : Type 0) : Type 0 where
  pub data_type : DataType
  pub items : List (Option X)
  pub capacity : ℕ
