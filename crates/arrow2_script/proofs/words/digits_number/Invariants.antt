use Rattle.std.proofs.Common.{◌≡◌, ◌<◌, ◌^◌, take}
use Rattle.std.specs.Str.Parse.{AllDigits, digits_value}
use Rattle.arrow2_script.proofs.words.digits_number.Given as goal

abbrev pub invariant-loop-byte : goal.invariant-loop-byte
invariant-loop-byte l = record {
  all : AllDigits 10 (take l.byte-index l.digits);
  value : l.number ≡ digits_value 10 (take l.byte-index l.digits);
  fits : l.number < 2 ^ 64;
}
