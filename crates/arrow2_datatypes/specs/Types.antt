-- The layout of each logical type, and the logical type of each native type: one line for each case.
use Rattle.arrow2_types.specs.declared.primitive.PrimitiveType.{PrimitiveType}
use Rattle.arrow2_types.specs.declared.primitive.PrimitiveType.TheVariants as Primitive
use Rattle.arrow2_datatypes.specs.declared.physical_type.IntegerType.{IntegerType}
use Rattle.arrow2_datatypes.specs.declared.physical_type.IntegerType.TheVariants as Integer
use Rattle.arrow2_datatypes.specs.declared.physical_type.PhysicalType.{PhysicalType}
use Rattle.arrow2_datatypes.specs.declared.physical_type.PhysicalType.TheVariants as Physical
use Rattle.arrow2_datatypes.specs.declared.IntervalUnit.TheVariants.{YearMonth, DayTime, MonthDayNano}
use Rattle.arrow2_datatypes.specs.declared.DataType.{DataType, Null, Boolean, Int8, Int16, Int32, Int64, UInt8, UInt16, UInt32, UInt64, Float16, Float32, Float64, Timestamp, Date32, Date64, Time32, Time64, Duration, Interval, Binary, FixedSizeBinary, LargeBinary, Utf8, LargeUtf8, List', FixedSizeList', LargeList', Struct', Union', Map', Dictionary', Decimal, Decimal256, Extension'}

-- how the values of a type are laid out
abbrev pub physical : DataType → PhysicalType
physical Null = Physical.Null
physical Boolean = Physical.Boolean
physical Int8 = Physical.Primitive Primitive.Int8
physical Int16 = Physical.Primitive Primitive.Int16
physical Int32 = Physical.Primitive Primitive.Int32
physical Int64 = Physical.Primitive Primitive.Int64
physical UInt8 = Physical.Primitive Primitive.UInt8
physical UInt16 = Physical.Primitive Primitive.UInt16
physical UInt32 = Physical.Primitive Primitive.UInt32
physical UInt64 = Physical.Primitive Primitive.UInt64
physical Float16 = Physical.Primitive Primitive.Float16
physical Float32 = Physical.Primitive Primitive.Float32
physical Float64 = Physical.Primitive Primitive.Float64
physical (Timestamp unit timezone) = Physical.Primitive Primitive.Int64
physical Date32 = Physical.Primitive Primitive.Int32
physical Date64 = Physical.Primitive Primitive.Int64
physical (Time32 unit) = Physical.Primitive Primitive.Int32
physical (Time64 unit) = Physical.Primitive Primitive.Int64
physical (Duration unit) = Physical.Primitive Primitive.Int64
physical (Interval YearMonth) = Physical.Primitive Primitive.Int32
physical (Interval DayTime) = Physical.Primitive Primitive.DaysMs
physical (Interval MonthDayNano) = Physical.Primitive Primitive.MonthDayNano
physical Binary = Physical.Binary
physical (FixedSizeBinary size) = Physical.FixedSizeBinary
physical LargeBinary = Physical.LargeBinary
physical Utf8 = Physical.Utf8
physical LargeUtf8 = Physical.LargeUtf8
physical (List' position name item nullable metadata) = Physical.List
physical (FixedSizeList' position name item nullable metadata size) = Physical.FixedSizeList
physical (LargeList' position name item nullable metadata) = Physical.LargeList
physical (Struct' shape fields) = Physical.Struct
physical (Union' shape fields ids mode) = Physical.Union
physical (Map' position name entries nullable metadata sorted) = Physical.Map
physical (Dictionary' key position values sorted) = Physical.Dictionary key
physical (Decimal precision scale) = Physical.Primitive Primitive.Int128
physical (Decimal256 precision scale) = Physical.Primitive Primitive.Int256
physical (Extension' name position inner metadata) = physical inner

-- a type without its extensions
abbrev pub logical : DataType → DataType
logical (Extension' name position inner metadata) = logical inner
logical t = t

-- the logical type of an integer type
abbrev pub of_integer : IntegerType → DataType
of_integer Integer.Int8 = Int8
of_integer Integer.Int16 = Int16
of_integer Integer.Int32 = Int32
of_integer Integer.Int64 = Int64
of_integer Integer.UInt8 = UInt8
of_integer Integer.UInt16 = UInt16
of_integer Integer.UInt32 = UInt32
of_integer Integer.UInt64 = UInt64

-- the logical type of an array of a native type, unless another one is given
abbrev pub of_primitive : PrimitiveType → DataType
of_primitive Primitive.Int8 = Int8
of_primitive Primitive.Int16 = Int16
of_primitive Primitive.Int32 = Int32
of_primitive Primitive.Int64 = Int64
of_primitive Primitive.Int128 = Decimal 32 32
of_primitive Primitive.Int256 = Decimal256 32 32
of_primitive Primitive.UInt8 = UInt8
of_primitive Primitive.UInt16 = UInt16
of_primitive Primitive.UInt32 = UInt32
of_primitive Primitive.UInt64 = UInt64
of_primitive Primitive.Float16 = Float16
of_primitive Primitive.Float32 = Float32
of_primitive Primitive.Float64 = Float64
of_primitive Primitive.DaysMs = Interval DayTime
of_primitive Primitive.MonthDayNano = Interval MonthDayNano
