use Rattle.std.proofs.lemmas.List.{map-id}
use Rattle.arrow2_ffi.proofs.offsets.arrow2_offsets32_rebase_unchecked.Goals as goal

pub rebase_unchecked-requires : goal.rebase_unchecked-requires
rebase_unchecked-requires c = record { valid = rw (map-id c.args.offsets.now) c.requires.valid }

pub returns : goal.returns
returns c = simp map-id at c.rebase_unchecked.ensures
