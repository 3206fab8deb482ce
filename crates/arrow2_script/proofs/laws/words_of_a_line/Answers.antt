use Rattle.arrow2_script.proofs.LawLemmas.{words_law}
use Rattle.arrow2_script.proofs.laws.words_of_a_line.Goals as goal

pub returns : goal.returns
returns c = words_law
