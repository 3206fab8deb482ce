-- The commands by which bitmaps grow by many items, and how each is spelled.
use Rattle.std.specs.Prelude.{◌<◌, ◌^◌, ℕ, List, [], ◌∷◌, codes, Option, None, option_map, if◌then◌else◌, bytes_eq, decimal}
use Rattle.arrow2_script.specs.Arguments.{◌>>◌, no_words}
use Rattle.arrow2_script.specs.Words.{number_of, slot_of, bit_of, bit_byte}
use Rattle.arrow2_script.specs.declared.growth_command.GrowthCommand.{GrowthCommand}
use Rattle.arrow2_script.specs.declared.growth_command.GrowthCommand.TheVariants.{Fill, Append}

-- the command that the words after a name spell, if it is one by which a bitmap grows
unfoldable pub growth_command_of : List ℕ → List (List ℕ) → Option GrowthCommand
growth_command_of name words =
    if bytes_eq name (codes "fill") then option_map (λ p. Fill p.0 p.1.0 p.1.1.0) ((slot_of >> number_of >> bit_of >> no_words) words)
    else if bytes_eq name (codes "append") then option_map (λ p. Append p.0 p.1.0) ((slot_of >> slot_of >> no_words) words)
    else None

-- the words of a command by which a bitmap grows
abbrev pub growth_words : GrowthCommand → List (List ℕ)
growth_words (Fill slot additional bit) = codes "fill" ∷ decimal slot ∷ decimal additional ∷ (bit_byte bit ∷ []) ∷ []
growth_words (Append to from) = codes "append" ∷ decimal to ∷ decimal from ∷ []

-- slots are below 16, and numbers fit 64 bits
abbrev pub GrowthFits : GrowthCommand → Type 0
GrowthFits (Fill slot additional bit) = (slot < 16) × (additional < 2 ^ 64)
GrowthFits (Append to from) = (to < 16) × (from < 16)
