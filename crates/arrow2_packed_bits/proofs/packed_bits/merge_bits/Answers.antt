use Rattle.arrow2_packed_bits.proofs.WordPushes.{merged_kept, merged_written}
use Rattle.arrow2_packed_bits.proofs.packed_bits.merge_bits.Goals as goal

pub returns-clause-kept : goal.returns-clause-kept
returns-clause-kept c i h = merged_kept c.args.byte c.args.position c.args.word c.up.result c.bit_or.result i c.to_ne_bytes-low.result c.requires.position c.up.ensures.bits c.to_ne_bytes-low.ensures.bits c.to_ne_bytes-low.ensures.size c.bit_or.ensures.bits h

pub returns-clause-written : goal.returns-clause-written
returns-clause-written c i h = merged_written c.args.byte c.args.position c.args.word c.up.result c.bit_or.result i c.to_ne_bytes-low.result c.requires.position c.requires.clear c.up.ensures.bits c.to_ne_bytes-low.ensures.bits c.to_ne_bytes-low.ensures.size c.bit_or.ensures.bits h
