use Rattle.std.proofs.Common.{◌≡◌, ◌∙◌, length, sym}
use Rattle.arrow2_model.proofs.Cursors.{length-part_bits}
use Rattle.arrow2_array.proofs.Tables.{all_known, paired_left, paired_right}
use Rattle.arrow2_ffi.specs.Ranges.{first_bits}
use Rattle.arrow2_ffi.proofs.KleeneSteps.{all_true, all_valid, given_items}
use Rattle.arrow2_ffi.proofs.kleene.write_known.Given as given
use Rattle.arrow2_ffi.proofs.kleene.write_known.Goals as goal
use Rattle.arrow2_ffi.proofs.kleene.write_known.Goals.{Start}

-- each side has a value for each result
sizes : (g : given.Over) → (c : Start g) → (length (first_bits c.args.lhs.values c.args.length) ≡ c.args.length) × (length (first_bits c.args.rhs.values c.args.length) ≡ c.args.length)
sizes g c =
    let l = c.args.lhs.values in
    let r = c.args.rhs.values in
    (length-part_bits l.0.now l.1 c.args.length c.requires.lhs.0, length-part_bits r.0.now r.1 c.args.length c.requires.rhs.0)

pub returns-in-None-None : goal.returns-in-None-None
returns-in-None-None g c =
    let size = sizes g (goal.at.returns-in-None-None g c).Start in
    let left = all_valid _ _ _ c.in-None-None.is-0 size.0 in
    let right = all_valid _ _ _ c.in-None-None.is-1 size.1 in
    record {
      items = (rw (all_true (first_bits c.args.lhs.values c.args.length) (first_bits c.args.rhs.values c.args.length)) at c.write_two.ensures.items) ∙ all_known g.row.KNOWN _ _ _ _ c.requires.paired.both (size.0 ∙ sym size.1) left right;
      canonical = c.write_two.ensures.canonical;
    }

pub returns-in-Some-None : goal.returns-in-Some-None
returns-in-Some-None g c =
    let size = sizes g (goal.at.returns-in-Some-None g c).Start in
    let left = given_items _ _ c.args.length c.in-Some-None.is-0 in
    let right = all_valid _ _ _ c.in-Some-None.is-1 size.1 in
    record {
      items = (rw left at c.write_three-in-Some-None.ensures.items) ∙ paired_right g.row.KNOWN g.row.PAIRED _ _ _ _ c.requires.paired.second (size.0 ∙ sym size.1) right;
      canonical = c.write_three-in-Some-None.ensures.canonical;
    }

pub returns-in-None-Some : goal.returns-in-None-Some
returns-in-None-Some g c =
    let size = sizes g (goal.at.returns-in-None-Some g c).Start in
    let left = all_valid _ _ _ c.in-None-Some.is-0 size.0 in
    let right = given_items _ _ c.args.length c.in-None-Some.is-1 in
    record {
      items = (rw right at c.write_three.ensures.items) ∙ paired_left g.row.KNOWN g.row.PAIRED _ _ _ _ c.requires.paired.first (size.0 ∙ sym size.1) left;
      canonical = c.write_three.ensures.canonical;
    }

pub returns-in-Some-Some : goal.returns-in-Some-Some
returns-in-Some-Some g c =
    let left = given_items _ _ c.args.length c.in-Some-Some.is-0 in
    let right = given_items _ _ c.args.length c.in-Some-Some.is-1 in
    record {
      items = rw (left, right) at c.write_four.ensures.items;
      canonical = c.write_four.ensures.canonical;
    }
