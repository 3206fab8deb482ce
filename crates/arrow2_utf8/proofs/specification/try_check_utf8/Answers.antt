use Rattle.arrow2_utf8.proofs.specification.try_check_utf8.Goals as goal

pub returns-clause-accepted : goal.returns-clause-accepted
returns-clause-accepted g c = rw c.as_slice.ensures.offsets at c.try_check_slots.ensures.accepted
