use Rattle.std.proofs.Common.{arith, rules, ◌≡◌, ◌≤◌, length, map, refl, ap}
use Rattle.arrow2_offset.specs.Offsets.{lengths_of, slots}
use Rattle.arrow2_offset.proofs.Growing.{cut}
use Rattle.arrow2_offset.proofs.mutable.Offsets.truncate.Goals as goal

pub invariant_of-self : goal.invariant_of-self
invariant_of-self g c =
    let e : length (lengths_of (map g.O.Number.value c.self.inside.offsets.items)) ≡ slots c.args.self.now = ap slots c.self.view_is in
    let within : c.args.count ≤ length (lengths_of (map g.O.Number.value c.self.inside.offsets.items)) = omega (arith, e, c.requires) in
    (cut g.O.Number.value g.O.OffsetNumber.MAX c.self.inside.offsets.items c.truncate.new.self.items _ c.args.count c.self.invariant refl within c.truncate.ensures.items).0

pub returns : goal.returns
returns g c =
    let e : length (lengths_of (map g.O.Number.value c.self.inside.offsets.items)) ≡ slots c.args.self.now = ap slots c.self.view_is in
    let within : c.args.count ≤ length (lengths_of (map g.O.Number.value c.self.inside.offsets.items)) = omega (arith, e, c.requires) in
    let d = cut g.O.Number.value g.O.OffsetNumber.MAX c.self.inside.offsets.items c.truncate.new.self.items _ c.args.count c.self.invariant refl within c.truncate.ensures.items in
    rw (← c.self.view_is) (record { start = d.1; lengths = d.2; capacity = search rules })
