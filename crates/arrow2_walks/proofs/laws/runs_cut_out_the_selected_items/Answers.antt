use Rattle.arrow2_walks.proofs.Selections.{selected-runs}
use Rattle.arrow2_walks.proofs.laws.runs_cut_out_the_selected_items.Goals as goal

pub returns : goal.returns
returns g c = selected-runs
