-- The text of a logical type at the front of the text of an array. A text is `None` where nothing is stated of it.
use Rattle.std.specs.Prelude.{ℕ, List, ◌++◌, Option, Some, None, codes, decimal}
use Rattle.arrow2_datatypes.specs.declared.TimeUnit.{TimeUnit}
use Rattle.arrow2_datatypes.specs.declared.TimeUnit.TheVariants.{Second, Millisecond, Microsecond, Nanosecond}
use Rattle.arrow2_datatypes.specs.declared.IntervalUnit.{IntervalUnit}
use Rattle.arrow2_datatypes.specs.declared.IntervalUnit.TheVariants.{YearMonth, DayTime, MonthDayNano}
use Rattle.arrow2_datatypes.specs.declared.DataType.{DataType, Int8, Int16, Int32, Int64, UInt8, UInt16, UInt32, UInt64, Float16, Float32, Float64, Timestamp, Date32, Date64, Time32, Time64, Duration, Interval, Decimal, Decimal256}

-- the name of a unit of time
abbrev pub time_unit_name : TimeUnit → List ℕ
time_unit_name Second = codes "Second"
time_unit_name Millisecond = codes "Millisecond"
time_unit_name Microsecond = codes "Microsecond"
time_unit_name Nanosecond = codes "Nanosecond"

-- the name of a unit of calendar spans
abbrev pub interval_unit_name : IntervalUnit → List ℕ
interval_unit_name YearMonth = codes "YearMonth"
interval_unit_name DayTime = codes "DayTime"
interval_unit_name MonthDayNano = codes "MonthDayNano"

-- the text of a type with the layout of a native type: nothing is stated of a type with a time zone, nor of an
-- extension
abbrev pub type_output : DataType → Option (List ℕ)
type_output Int8 = Some (codes "Int8")
type_output Int16 = Some (codes "Int16")
type_output Int32 = Some (codes "Int32")
type_output Int64 = Some (codes "Int64")
type_output UInt8 = Some (codes "UInt8")
type_output UInt16 = Some (codes "UInt16")
type_output UInt32 = Some (codes "UInt32")
type_output UInt64 = Some (codes "UInt64")
type_output Float16 = Some (codes "Float16")
type_output Float32 = Some (codes "Float32")
type_output Float64 = Some (codes "Float64")
type_output (Timestamp unit None) = Some (codes "Timestamp(" ++ time_unit_name unit ++ codes ", None)")
type_output Date32 = Some (codes "Date32")
type_output Date64 = Some (codes "Date64")
type_output (Time32 unit) = Some (codes "Time32(" ++ time_unit_name unit ++ codes ")")
type_output (Time64 unit) = Some (codes "Time64(" ++ time_unit_name unit ++ codes ")")
type_output (Duration unit) = Some (codes "Duration(" ++ time_unit_name unit ++ codes ")")
type_output (Interval unit) = Some (codes "Interval(" ++ interval_unit_name unit ++ codes ")")
type_output (Decimal precision scale) = Some (codes "Decimal(" ++ decimal precision ++ codes ", " ++ decimal scale ++ codes ")")
type_output (Decimal256 precision scale) = Some (codes "Decimal256(" ++ decimal precision ++ codes ", " ++ decimal scale ++ codes ")")
type_output other = None
