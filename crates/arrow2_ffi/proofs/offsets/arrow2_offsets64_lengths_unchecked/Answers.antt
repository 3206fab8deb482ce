use Rattle.std.proofs.lemmas.List.{map-id}
use Rattle.arrow2_ffi.proofs.offsets.arrow2_offsets64_lengths_unchecked.Goals as goal

pub lengths_unchecked-requires : goal.lengths_unchecked-requires
lengths_unchecked-requires c = record { valid = rw (map-id c.args.offsets.now) c.requires.valid }

pub returns : goal.returns
returns c = simp map-id at c.lengths_unchecked.ensures
