use Rattle.std.proofs.Common.{◌+◌, ◌≤◌, length, sum, refl, sym, arith}
use Rattle.arrow2_model.specs.Lists.{buffer_items, part}
use Rattle.arrow2_model.proofs.Parts.{length-part}
use Rattle.arrow2_offset.specs.Offsets.{lengths_of}
use Rattle.arrow2_validity.specs.OptionalValidity.{valid_items}
use Rattle.arrow2_text.specs.Binary.{binary_values}
use Rattle.arrow2_text.proofs.CapacityForSlots.{appended, not-appended, capacity-for}
use Rattle.arrow2_text.proofs.growing.Growing.extend.Goals as goal

pub extend_within-requires-clause-spare : goal.extend_within-requires-clause-spare
extend_within-requires-clause-spare g c = capacity-for g.O.OffsetNumber.MAX c.args.self.now c.reserve_below.new.self c.args.len (length c.bytes_of-bytes.result.now) (length c.bytes_of-bytes.result.now) c.in_ok-reserve_below.field-0 refl c.in_ok-reserve_below.ensures

pub returns : goal.returns
returns g c =
    let b = c.args.slots.now in
    let vs = valid_items b.validity in
    let k = c.args.start in
    let n = c.args.len in
    let inside : k + n ≤ length vs = omega (arith, c.len.ensures.validity, c.len.ensures.items, c.requires) in
    appended g.O.OffsetNumber.MAX c.args.self.now c.extend_within.new.self (part (binary_values b) k n) (part vs k n) n (sum (part (lengths_of (buffer_items b.offsets)) k n)) (length c.bytes_of-bytes.result.now)
    (sym (length-part vs k n inside)) c.bytes_of-bytes.ensures.len c.reserve_below.new.self c.in_ok-reserve_below.field-0 _ c.in_ok-reserve_below.ensures c.extend_within.ensures

pub returns-in_err-reserve_below : goal.returns-in_err-reserve_below
returns-in_err-reserve_below g c =
    let b = c.args.slots.now in
    let vs = valid_items b.validity in
    let k = c.args.start in
    let n = c.args.len in
    let inside : k + n ≤ length vs = omega (arith, c.len.ensures.validity, c.len.ensures.items, c.requires) in
    not-appended g.O.OffsetNumber.MAX c.args.self.now c.reserve_below.new.self (part (binary_values b) k n) (part vs k n) n (sum (part (lengths_of (buffer_items b.offsets)) k n)) (length c.bytes_of-bytes.result.now)
    (sym (length-part vs k n inside)) c.bytes_of-bytes.ensures.len c.in_err-reserve_below.field-0.0 c.from_residual.result c.from_residual.ensures c.in_err-reserve_below.ensures
