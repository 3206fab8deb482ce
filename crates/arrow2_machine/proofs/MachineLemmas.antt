-- A script's replies, line by line.
use Rattle.std.proofs.Common.{◌≡◌, ◌∙◌, sym, ap, ℕ, List, [], ◌∷◌, ◌++◌, length, replicate, append_assoc, append-nil, refl}
use Rattle.arrow2_script.specs.Lines.{lines_of, with_newline}
use Rattle.arrow2_machine.specs.SlotValues.{SlotValue, Nothing}
use Rattle.arrow2_machine.specs.Machine.{step, replies, text}

-- the replies that are there, and those to the lines that are left
unfoldable pub in_all : List ℕ → List SlotValue → List ℕ → List ℕ
in_all reply slots rest = reply ++ replies slots (lines_of rest)

-- before the first line
pub at_first : (script : List ℕ) → in_all [] (replicate 16 Nothing) script ≡ text script
unfolding in_all text
at_first script = refl

-- one line more
pub at_next : (reply : List ℕ) (slots : List SlotValue) (rest line others : List ℕ) → lines_of rest ≡ line ∷ lines_of others → in_all (reply ++ with_newline (step slots line).1) (step slots line).0 others ≡ in_all reply slots rest
unfolding in_all replies
at_next reply slots rest line others e = append_assoc reply (with_newline (step slots line).1) (replies (step slots line).0 (lines_of others)) ∙ ap (λ lines. reply ++ replies slots lines) (sym e)

-- after the last line
pub at_last : (reply : List ℕ) (slots : List SlotValue) (rest : List ℕ) → length rest ≡ 0 → in_all reply slots rest ≡ reply
unfolding in_all replies lines_of
at_last reply slots [] e = append-nil reply
at_last reply slots (b ∷ rest) e = cc

pub ruleset running = (at_first, at_next, at_last)
