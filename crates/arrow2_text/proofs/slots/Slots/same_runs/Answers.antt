use Rattle.std.proofs.Common.{◌≡◌, ◌∙◌, ℕ, ◌+◌, ◌≤◌, All, List, length, get_or, ap, sym, subst, arith, rules}
use Rattle.arrow2_model.specs.Lists.{part, items_of}
use Rattle.arrow2_model.proofs.Parts.{length-part}
use Rattle.arrow2_walks.specs.Runs.{runs}
use Rattle.arrow2_walks.proofs.RemainingItems.{left-all}
use Rattle.arrow2_text.specs.Binary.{binary_values}
use Rattle.arrow2_text.proofs.SameSlots.{runs-alike, runs-left, runs-differ}
use Rattle.arrow2_text.proofs.slots.Slots.same_runs.Goals as goal

pub loop-start-init : goal.loop-start-init
loop-start-init g c =
    let valid = items_of c.args.valid.now in
    let made : c.into_iter-start-iterator.result.runs ≡ runs valid = search rules in
    record {
      inside = subst (λ rs. All (λ run. run.0 + run.1 ≤ length valid) rs) (sym made) (c.runs_lie_inside.ensures valid);
      same = rw made (runs-alike (binary_values c.args.self.now) (binary_values c.args.other.now) valid (c.requires.mine ∙ (sym c.len.ensures.items ∙ c.len.ensures.values)) (c.requires.others ∙ (sym c.len-2.ensures.items ∙ c.len-2.ensures.values)));
    }

pub loop-start-preserved : goal.loop-start-preserved
loop-start-preserved g c =
    let valid = items_of c.args.valid.now in
    let mine = binary_values c.args.self.now in
    let others = binary_values c.args.other.now in
    let before = c.loop-start.invariant in
    let first = c.in-Some.ensures.steps.runs in
    record {
      inside = left-all (λ (run : ℕ × ℕ). run.0 + run.1 ≤ length valid) first before.inside;
      same = runs-left (λ run. part mine run.0 run.1) (λ run. part others run.0 run.1) _ _ _ _ first (c.same_values.ensures.0 c.if-not-same_values.false) before.same;
    }

pub returns-then-not-same_values : goal.returns-then-not-same_values
returns-then-not-same_values g c =
    let mine = binary_values c.args.self.now in
    let others = binary_values c.args.other.now in
    let first = c.in-Some.ensures.steps.runs in
    let run : ℕ × ℕ = (c.in-Some.start, c.in-Some.len) in
    let inside : run.0 + run.1 ≤ length (items_of c.args.valid.now) = subst (λ (rs : List (ℕ × ℕ)). (get_or rs 0 run).0 + (get_or rs 0 run).1 ≤ length (items_of c.args.valid.now)) first (c.loop-start.invariant.inside 0 run (omega (arith, ap length first))) in
    let count = length-part mine run.0 run.1 (omega (arith, inside, c.requires.mine, c.len.ensures.items, c.len.ensures.values)) ∙ sym (length-part others run.0 run.1 (omega (arith, inside, c.requires.others, c.len-2.ensures.items, c.len-2.ensures.values))) in
    (λ no. cc, λ same. absurd (runs-differ (λ run. part mine run.0 run.1) (λ run. part others run.0 run.1) _ _ run _ first count (λ e. let yes = c.same_values.ensures.1 e in cc) c.loop-start.invariant.same same))
