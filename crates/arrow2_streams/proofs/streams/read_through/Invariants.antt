use Rattle.std.proofs.Common.{◌≡◌, ◌-◌, ◌^◌, vec_len}
use Rattle.std.specs.Io.KnownBytes.{Consumes}
use Rattle.arrow2_streams.proofs.streams.read_through.Given as goal

abbrev pub invariant-reads : goal.invariant-reads
invariant-reads g l = record {
  none_failed : l.reader.failed ≡ l.fn.reader.failed;
  taken : Consumes (g.R.Read.remaining l.fn.reader.inner) (g.R.Read.remaining l.reader.inner) l.input.items;
}

abbrev pub decreases-reads : goal.decreases-reads
decreases-reads g l = 2 ^ 64 - vec_len l.input
