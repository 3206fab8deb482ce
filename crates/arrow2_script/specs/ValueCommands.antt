-- The commands on values of any type, and how each is spelled.
use Rattle.std.specs.Prelude.{◌<◌, ℕ, List, [], ◌∷◌, codes, Option, None, option_map, if◌then◌else◌, bytes_eq, decimal}
use Rattle.arrow2_script.specs.Arguments.{◌>>◌, no_words}
use Rattle.arrow2_script.specs.Words.{slot_of}
use Rattle.arrow2_script.specs.declared.value_command.ValueCommand.{ValueCommand}
use Rattle.arrow2_script.specs.declared.value_command.ValueCommand.TheVariants.{Copy, Compare}

-- the command on values that the words after a name spell
unfoldable pub value_command_of : List ℕ → List (List ℕ) → Option ValueCommand
value_command_of name words =
    if bytes_eq name (codes "copy") then option_map (λ p. Copy p.0 p.1.0) ((slot_of >> slot_of >> no_words) words)
    else if bytes_eq name (codes "eq") then option_map (λ p. Compare p.0 p.1.0) ((slot_of >> slot_of >> no_words) words)
    else None

-- the words of a command on values
abbrev pub value_words : ValueCommand → List (List ℕ)
value_words (Copy from to) = codes "copy" ∷ decimal from ∷ decimal to ∷ []
value_words (Compare left right) = codes "eq" ∷ decimal left ∷ decimal right ∷ []

-- slots are below 16
abbrev pub ValueFits : ValueCommand → Type 0
ValueFits (Copy from to) = (from < 16) × (to < 16)
ValueFits (Compare left right) = (left < 16) × (right < 16)
