use Rattle.std.proofs.lemmas.List.{map-id}
use Rattle.arrow2_ffi.proofs.offsets.arrow2_offsets32_rebase.Goals as goal

pub returns : goal.returns
returns c = simp map-id at c.rebase.ensures
