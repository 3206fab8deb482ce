use Rattle.std.proofs.Common.{refl}
use Rattle.arrow2_model.proofs.Digits.{first_back, second_back}
use Rattle.arrow2_composite.proofs.interval.Days_msNativeType.to_le_bytes.Goals as goal

pub returns-clause-read_back : goal.returns-clause-read_back
returns-clause-read_back c =
    let days = first_back 4 c.args.self.now.0 c.join.result c.to_le_bytes-days.result c.to_le_bytes-milliseconds.result c.join.ensures c.to_le_bytes-days.ensures.size c.to_le_bytes-days.ensures.read_back in
    let milliseconds = second_back 4 4 c.args.self.now.1 c.join.result c.to_le_bytes-days.result c.to_le_bytes-milliseconds.result c.join.ensures c.to_le_bytes-days.ensures.size c.to_le_bytes-milliseconds.ensures.size c.to_le_bytes-milliseconds.ensures.read_back in
    rw (days, milliseconds) refl
