use Rattle.arrow2_script.proofs.LawLemmas.{lines_are, lines_only}
use Rattle.arrow2_script.proofs.laws.lines_of_a_script.Goals as goal

pub returns : goal.returns
returns c = record { are = lines_are; only = lines_only }
