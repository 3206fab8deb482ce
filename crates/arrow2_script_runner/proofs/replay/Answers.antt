use Rattle.std.proofs.Common.{rules}
use Rattle.arrow2_script_runner.proofs.replay.Goals as goal

pub returns-clause-ok : goal.returns-clause-ok
returns-clause-ok g c = search (rules, c.replies.ensures, c.write_all.ensures)

pub returns-clause-begins : goal.returns-clause-begins
returns-clause-begins g c = search (rules, c.replies.ensures, c.write_all.ensures)
