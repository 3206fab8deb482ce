use Rattle.std.proofs.Common.{◌≡◌, ◌∙◌, ℕ, ◌+◌, ◌<◌, ◌≤◌, ◌^◌, ◌++◌, All, List, get_or, length, sum, ap, sym, subst, arith, rules, IfOk, flat_map}
use Rattle.std.proofs.lemmas.Grind.{common_steps}
use Rattle.arrow2_model.specs.Lists.{buffer_items, part, items_of}
use Rattle.arrow2_offset.specs.Offsets.{lengths_of}
use Rattle.arrow2_text.specs.Binary.{binary_items}
use Rattle.arrow2_walks.specs.Runs.{runs}
use Rattle.arrow2_walks.specs.Selections.{selection}
use Rattle.arrow2_walks.proofs.RemainingItems.{left-all, left-done}
use Rattle.arrow2_walks.proofs.Selections.{length-selected, selected-runs}
use Rattle.arrow2_compute.proofs.KernelLoops.{kept-fits}
use Rattle.arrow2_compute.proofs.ByteCounts.{sum-first, sum-selected}
use Rattle.arrow2_compute.proofs.filter.selected_slots.Goals as goal

-- at first all runs are left
pub loop-start-init : goal.loop-start-init
loop-start-init g c =
    let items = binary_items c.args.array.now in
    let lengths = lengths_of (buffer_items c.args.array.now.offsets) in
    let mask = items_of c.args.mask.now in
    let cut = λ (run : ℕ × ℕ). part items run.0 run.1 in
    let span = λ (run : ℕ × ℕ). part lengths run.0 run.1 in
    let made : c.into_iter-start-iterator.result.runs ≡ runs mask = search rules in
    let all = subst (λ n. All (λ (run : ℕ × ℕ). run.0 + run.1 ≤ n) (runs mask)) c.requires.same_length (c.runs_lie_inside.ensures mask) in
    let moved = ap (λ rs. sum (flat_map span rs)) made in
    record {
      inside = subst (λ rs. All (λ (run : ℕ × ℕ). run.0 + run.1 ≤ length items) rs) (sym made) all;
      done = ap (λ kept. kept ++ flat_map cut c.into_iter-start-iterator.result.runs) c.in_ok-kept.ensures.items.0 ∙ ap (flat_map cut) made;
      bytes = omega (arith, moved, c.in_ok-kept.ensures.items.1);
      data_type = c.in_ok-kept.ensures.data_type;
    }

-- a run that is left lies inside
pub extend_from_array-requires : goal.extend_from_array-requires
extend_from_array-requires g c =
    let items = binary_items c.args.array.now in
    let run : ℕ × ℕ = (c.in-Some.start, c.in-Some.len) in
    let first = c.in-Some.ensures.steps.runs in
    record {
      inside = subst (λ (rs : List (ℕ × ℕ)). (get_or rs 0 run).0 + (get_or rs 0 run).1 ≤ length items) first (c.loop-start.invariant.inside 0 run (omega (arith, ap length first)));
    }

-- the run that comes was the first one left, and its items are those that are appended
pub loop-start-preserved : goal.loop-start-preserved
loop-start-preserved g c =
    let items = binary_items c.args.array.now in
    let lengths = lengths_of (buffer_items c.args.array.now.offsets) in
    let before = c.loop-start.invariant in
    let first = c.in-Some.ensures.steps.runs in
    let more = sum-first (λ (run : ℕ × ℕ). part lengths run.0 run.1) _ _ _ first in
    record {
      inside = left-all (λ (run : ℕ × ℕ). run.0 + run.1 ≤ length items) first before.inside;
      done = left-done (λ (run : ℕ × ℕ). part items run.0 run.1) _ _ _ first c.in_ok-extend_from_array.ensures.ok before.done;
      bytes = omega (arith, more, c.in_ok-extend_from_array.ensures.ok_bytes, before.bytes);
      data_type = c.extend_from_array.ensures.data_type ∙ before.data_type;
    }

-- no more is kept than there is, and no more bytes
pub returns-in_err-extend_from_array-clause-only : goal.returns-in_err-extend_from_array-clause-only
returns-in_err-extend_from_array-clause-only g c =
    let items = binary_items c.args.array.now in
    let lengths = lengths_of (buffer_items c.args.array.now.offsets) in
    let mask = items_of c.args.mask.now in
    let cut = λ (run : ℕ × ℕ). part items run.0 run.1 in
    let span = λ (run : ℕ × ℕ). part lengths run.0 run.1 in
    let kept = c.loop-start.kept in
    let first = c.in-Some.ensures.steps.runs in
    let fits = kept-fits cut kept.items _ _ _ _ first c.loop-start.invariant.done in
    let whole = ap length (selected-runs items mask c.requires.same_length) in
    let few = length-selected items mask in
    let counted : length kept.items + length (part items c.in-Some.start c.in-Some.len) < 2 ^ 64 = omega (arith, fits, whole, few, c.requires.same_length, c.count-len.ensures.items) in
    let more = sum-first span _ _ _ first in
    let slots : length mask ≡ length lengths = c.requires.same_length ∙ (sym c.count-len.ensures.items ∙ c.count-len.ensures.slots) in
    let all = ap sum (selected-runs lengths mask slots) in
    let most = sum-selected lengths mask in
    let spare : kept.bytes + sum (part lengths c.in-Some.start c.in-Some.len) ≤ g.O.OffsetNumber.MAX = omega (arith, more, all, most, c.loop-start.invariant.bytes, c.count-len.ensures.fits) in
    grind (arith, common_steps, counted, spare)

pub returns-clause-items : goal.returns-clause-items
returns-clause-items g c =
    let items = binary_items c.args.array.now in
    let mask = items_of c.args.mask.now in
    let whole = selected-runs items mask c.requires.same_length in
    let done = c.loop-start.invariant.done in
    let all : c.loop-start.kept.items ≡ selection items mask = grind (arith, common_steps, whole, done) in
    subst (λ z. IfOk c.freeze.result (λ a. binary_items a ≡ z)) all c.freeze.ensures.items

pub returns-clause-bytes : goal.returns-clause-bytes
returns-clause-bytes g c =
    let lengths = lengths_of (buffer_items c.args.array.now.offsets) in
    let mask = items_of c.args.mask.now in
    let slots : length mask ≡ length lengths = c.requires.same_length ∙ (sym c.count-len.ensures.items ∙ c.count-len.ensures.slots) in
    let whole = ap sum (selected-runs lengths mask slots) in
    let done = c.loop-start.invariant.bytes in
    let all : c.loop-start.kept.bytes ≡ sum (selection lengths mask) = grind (arith, common_steps, whole, done) in
    subst (λ n. IfOk c.freeze.result (λ a. length (buffer_items a.values) ≡ n)) all c.freeze.ensures.bytes
