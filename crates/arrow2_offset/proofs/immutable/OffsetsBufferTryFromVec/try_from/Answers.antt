use Rattle.std.proofs.Common.{map, ap, pos}
use Rattle.std.proofs.lemmas.Result.{MatchResult-weaker}
use Rattle.arrow2_offset.specs.Offsets.{offsets_of}
use Rattle.arrow2_offset.proofs.Growing.{whole_of_list}
use Rattle.arrow2_offset.proofs.immutable.OffsetsBufferTryFromVec.try_from.Goals as goal

pub returns : goal.returns
returns g c =
    let xs = map g.O.Number.value c.args.offsets.items in
    let o = c.in_ok-try_from.field-0 in
    let made = c.in_ok-try_from.ensures in
    MatchResult-weaker c.try_from-2.result c.try_from-2.ensures
    (λ b h. whole_of_list xs (map pos (offsets_of o)) b made.0 (ap (λ m. map pos (offsets_of m)) made.1) h.0)
    (λ e h. (rw h tt, λ _. h))
