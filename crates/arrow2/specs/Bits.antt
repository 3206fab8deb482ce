-- Bits of numbers and of bytes.
pub use Rattle.arrow2_model.specs.Lists.{bit, unnum, num, sum_of_powers, bits}
