use Rattle.std.proofs.Common.{◌≡◌, ◌++◌}
use Rattle.arrow2_machine.proofs.storage.bytes_of_hex.Given as goal

abbrev pub invariant-loop-byte : goal.invariant-loop-byte
invariant-loop-byte l = l.decoded.items ++ l.byte-iterator ≡ l.fn.bytes
