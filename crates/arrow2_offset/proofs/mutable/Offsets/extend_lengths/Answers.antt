use Rattle.arrow2_offset.proofs.mutable.Offsets.extend_lengths.Goals as goal

pub returns : goal.returns
returns g c = rw (← c.self.view_is) c.append_lengths.ensures.grows
