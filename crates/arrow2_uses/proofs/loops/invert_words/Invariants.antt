use Rattle.arrow2.specs.ChunksMut.{chunks_left}
use Rattle.arrow2_uses.proofs.loops.invert_words.Given as goal

abbrev pub decreases-loop-chunks : goal.decreases-loop-chunks
decreases-loop-chunks l = chunks_left l.chunks
