use Rattle.std.proofs.Common.{refl}
use Rattle.arrow2_model.proofs.Digits.{first_back_high, middle_back_high, third_back_high}
use Rattle.arrow2_composite.proofs.interval.Months_days_nsNativeType.to_be_bytes.Goals as goal

pub returns-clause-read_back : goal.returns-clause-read_back
returns-clause-read_back c =
    let months = first_back_high 4 c.args.self.now.0 c.join.result c.to_be_bytes-months.result c.join-rest.result c.join.ensures c.to_be_bytes-months.ensures.size c.to_be_bytes-months.ensures.read_back in
    let days = middle_back_high 4 4 c.args.self.now.1 c.join.result c.to_be_bytes-months.result c.join-rest.result c.to_be_bytes-days.result c.to_be_bytes-ns.result c.join.ensures c.join-rest.ensures c.to_be_bytes-months.ensures.size c.to_be_bytes-days.ensures.size c.to_be_bytes-days.ensures.read_back in
    let ns = third_back_high 4 4 8 c.args.self.now.2 c.join.result c.to_be_bytes-months.result c.join-rest.result c.to_be_bytes-days.result c.to_be_bytes-ns.result c.join.ensures c.join-rest.ensures c.to_be_bytes-months.ensures.size c.to_be_bytes-days.ensures.size c.to_be_bytes-ns.ensures.size c.to_be_bytes-ns.ensures.read_back in
    rw (months, days, ns) refl
