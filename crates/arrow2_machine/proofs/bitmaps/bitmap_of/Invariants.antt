use Rattle.std.proofs.Common.{◌≡◌, ◌≤◌, length, take}
use Rattle.arrow2_script.specs.Words.{items_of_digits}
use Rattle.arrow2_machine.proofs.bitmaps.bitmap_of.Given as goal

abbrev pub invariant-loop-digit : goal.invariant-loop-digit
invariant-loop-digit l = record {
  so_far : l.bitmap.items ≡ items_of_digits (take l.digit-index l.digits);
  spare : length l.digits ≤ l.bitmap.capacity;
}
