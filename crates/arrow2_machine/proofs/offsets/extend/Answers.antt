use Rattle.arrow2.specs.Offsets.{last_of_growing}
use Rattle.arrow2_machine.proofs.OffsetLemmas.{past_all, all_grown, grown_within, on_ok, on_ok_both}
use Rattle.arrow2_machine.proofs.offsets.extend.Goals as goal

pub returns-clause-ok : goal.returns-clause-ok
returns-clause-ok c =
    let r = c.try_extend_from_lengths in
    on_ok r.result _ _ (all_grown c.args.offsets.now r.new.self c.args.lengths) r.ensures.ok

pub returns-clause-fits : goal.returns-clause-fits
returns-clause-fits c =
    let r = c.try_extend_from_lengths in
    on_ok_both r.result _ _ _ (λ run. grown_within 2147483647 c.args.offsets.now r.new.self c.args.lengths (all_grown c.args.offsets.now r.new.self c.args.lengths run)) r.ensures.ok r.ensures.fits

pub returns-clause-overflow : goal.returns-clause-overflow
returns-clause-overflow c is = past_all 2147483647 (last_of_growing c.args.offsets.now) c.args.lengths (c.try_extend_from_lengths.ensures.overflow is)
