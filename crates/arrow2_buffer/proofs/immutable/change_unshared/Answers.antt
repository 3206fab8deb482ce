use Rattle.std.proofs.Common.{rules, arith, ◌≡◌, ◌-◌, length}
use Rattle.arrow2_buffer.proofs.Overwrites.{rewritten_within}
use Rattle.arrow2_buffer.proofs.immutable.change_unshared.Goals as goal

pub returns-in-Some-clause-written : goal.returns-in-Some-clause-written
returns-in-Some-clause-written g c =
    let long : length c.change.new.arg2 ≡ c.args.end - c.args.start = omega (arith, c.change.auto.arg2, c.part_mut.ensures.len) in
    (c.change.new.arg2, rw (← c.in-Some.ensures.value, ← c.part_mut.ensures.value) (search rules), long, rw c.in-Some.ensures.value (rewritten_within c.args.shared.now.value c.args.start c.change.new.arg2 (omega arith)))
