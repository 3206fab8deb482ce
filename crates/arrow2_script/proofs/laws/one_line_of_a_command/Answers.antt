use Rattle.arrow2_script.proofs.LawLemmas.{command_law}
use Rattle.arrow2_script.proofs.laws.one_line_of_a_command.Goals as goal

pub returns : goal.returns
returns c = command_law
