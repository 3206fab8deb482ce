use Rattle.std.proofs.Common.{◌≡◌, length}
use Rattle.arrow2_machine.specs.Machine.{text}
use Rattle.arrow2_machine.proofs.MachineLemmas.{in_all}
use Rattle.arrow2_machine.proofs.machine.replies.Given as goal

abbrev pub invariant-lines : goal.invariant-lines
invariant-lines l = in_all l.reply.items l.machine l.rest ≡ text l.fn.script

abbrev pub decreases-lines : goal.decreases-lines
decreases-lines l = length l.rest
