use Rattle.arrow2_model.proofs.Kernels.{same_kernels}
use Rattle.arrow2_model.proofs.laws.a_table_is_the_same_at_each_width.Goals as goal

pub returns : goal.returns
returns c = same_kernels
