-- Laws of the type tables.
use Rattle.std.proofs.Common.{◌≡◌, refl}
use Rattle.arrow2_types.specs.declared.primitive.PrimitiveType.{PrimitiveType}
use Rattle.arrow2_types.specs.declared.primitive.PrimitiveType.TheVariants.{Int8}
use Rattle.arrow2_datatypes.specs.declared.physical_type.PhysicalType.TheVariants.{Primitive}
use Rattle.arrow2_datatypes.specs.declared.DataType.{DataType, Extension'}
use Rattle.arrow2_datatypes.specs.Types.{physical, logical, of_primitive}

pub physical-of_primitive : (p : PrimitiveType) → physical (of_primitive p) ≡ Primitive p
physical-of_primitive Int8 = refl
physical-of_primitive p = refl

pub physical-logical : (t : DataType) → physical (logical t) ≡ physical t
physical-logical (Extension' name position inner metadata) = physical-logical inner
physical-logical t = refl

pub logical-logical : (t : DataType) → logical (logical t) ≡ logical t
logical-logical (Extension' name position inner metadata) = logical-logical inner
logical-logical t = refl

pub ruleset tables = (physical-of_primitive, physical-logical, logical-logical)
