use Rattle.std.proofs.Common.{◌≡◌, ◌∙◌, []}
use Rattle.arrow2_machine.specs.Replies.{run_word, words_text}
use Rattle.arrow2_machine.proofs.WordListLemmas.{first_written, next_written}
use Rattle.arrow2_machine.proofs.replies.write_runs.Goals as goal

pub loop-start-init : goal.loop-start-init
loop-start-init c = first_written run_word c.write_run.new.out.items c.args.out.now.items (c.in-Some.start, c.in-Some.len) c.next_run.new.self.runs c.args.runs.runs c.in-Some.ensures.steps c.in_ok-write_run.ensures

pub loop-start-preserved : goal.loop-start-preserved
loop-start-preserved c =
    next_written run_word c.write_run-in-Some-next_run.new.out.items c.push.new.self.items c.loop-start.out.items (c.in-Some-next_run.start, c.in-Some-next_run.len) c.next_run-in-loop-start.new.self.runs c.loop-start.runs.runs c.in-Some-next_run.ensures.steps c.in_ok-push.ensures.items c.in_ok-write_run-2.ensures ∙ c.loop-start.invariant

pub returns-in_default : goal.returns-in_default
unfolding words_text
returns-in_default c =
    let none : c.args.runs.runs ≡ [] = c.in_default.ensures.steps.0 in
    rw none c.in_ok-extend_from_slice.ensures.items
