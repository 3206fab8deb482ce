use Rattle.std.proofs.Common.{refl}
use Rattle.arrow2_model.proofs.Digits.{first_back, middle_back, third_back}
use Rattle.arrow2_composite.proofs.interval.Months_days_nsNativeType.to_le_bytes.Goals as goal

pub returns-clause-read_back : goal.returns-clause-read_back
returns-clause-read_back c =
    let months = first_back 4 c.args.self.now.0 c.join.result c.to_le_bytes-months.result c.join-rest.result c.join.ensures c.to_le_bytes-months.ensures.size c.to_le_bytes-months.ensures.read_back in
    let days = middle_back 4 4 c.args.self.now.1 c.join.result c.to_le_bytes-months.result c.join-rest.result c.to_le_bytes-days.result c.to_le_bytes-ns.result c.join.ensures c.join-rest.ensures c.to_le_bytes-months.ensures.size c.to_le_bytes-days.ensures.size c.to_le_bytes-days.ensures.read_back in
    let ns = third_back 4 4 8 c.args.self.now.2 c.join.result c.to_le_bytes-months.result c.join-rest.result c.to_le_bytes-days.result c.to_le_bytes-ns.result c.join.ensures c.join-rest.ensures c.to_le_bytes-months.ensures.size c.to_le_bytes-days.ensures.size c.to_le_bytes-ns.ensures.size c.to_le_bytes-ns.ensures.read_back in
    rw (months, days, ns) refl
