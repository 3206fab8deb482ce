-- The commands on offsets, and how each is spelled.
use Rattle.std.specs.Prelude.{◌<◌, ◌^◌, ℕ, List, [], ◌∷◌, codes, Option, None, option_map, if◌then◌else◌, All, bytes_eq, decimal}
use Rattle.arrow2_script.specs.Arguments.{◌>>◌, no_words}
use Rattle.arrow2_script.specs.Words.{number_of, slot_of, number_list, numbers_text}
use Rattle.arrow2_script.specs.declared.offset_command.OffsetCommand.{OffsetCommand}
use Rattle.arrow2_script.specs.declared.offset_command.OffsetCommand.TheVariants.{New, Push, Pop, Extend, Offsets, Freeze, Slice, Zip}

-- the command that the words after a name spell, if frozen offsets accept it; growing offsets accept one of these too
unfoldable pub frozen_offsets_command_of : List ℕ → List (List ℕ) → Option OffsetCommand
frozen_offsets_command_of name words =
    if bytes_eq name (codes "olist") then option_map (λ p. Offsets p.0) ((slot_of >> no_words) words)
    else if bytes_eq name (codes "oslice") then option_map (λ p. Slice p.0 p.1.0 p.1.1.0) ((slot_of >> number_of >> number_of >> no_words) words)
    else if bytes_eq name (codes "zip") then option_map (λ p. Zip p.0 p.1.0) ((slot_of >> slot_of >> no_words) words)
    else None

-- the command on offsets that the words after a name spell
unfoldable pub offset_command_of : List ℕ → List (List ℕ) → Option OffsetCommand
offset_command_of name words =
    if bytes_eq name (codes "onew") then option_map (λ p. New p.0 p.1.0) ((slot_of >> number_of >> no_words) words)
    else if bytes_eq name (codes "opush") then option_map (λ p. Push p.0 p.1.0) ((slot_of >> number_of >> no_words) words)
    else if bytes_eq name (codes "opop") then option_map (λ p. Pop p.0) ((slot_of >> no_words) words)
    else if bytes_eq name (codes "oext") then option_map (λ p. Extend p.0 p.1.0) ((slot_of >> number_list >> no_words) words)
    else if bytes_eq name (codes "ofreeze") then option_map (λ p. Freeze p.0) ((slot_of >> no_words) words)
    else frozen_offsets_command_of name words

-- the words of a command on offsets
abbrev pub offset_words : OffsetCommand → List (List ℕ)
offset_words (New slot first) = codes "onew" ∷ decimal slot ∷ decimal first ∷ []
offset_words (Push slot length) = codes "opush" ∷ decimal slot ∷ decimal length ∷ []
offset_words (Pop slot) = codes "opop" ∷ decimal slot ∷ []
offset_words (Extend slot lengths) = codes "oext" ∷ decimal slot ∷ numbers_text lengths ∷ []
offset_words (Offsets slot) = codes "olist" ∷ decimal slot ∷ []
offset_words (Freeze slot) = codes "ofreeze" ∷ decimal slot ∷ []
offset_words (Slice slot first count) = codes "oslice" ∷ decimal slot ∷ decimal first ∷ decimal count ∷ []
offset_words (Zip offsets validity) = codes "zip" ∷ decimal offsets ∷ decimal validity ∷ []

-- slots are below 16, and numbers fit 64 bits
abbrev pub OffsetFits : OffsetCommand → Type 0
OffsetFits (New slot first) = (slot < 16) × (first < 2 ^ 64)
OffsetFits (Push slot length) = (slot < 16) × (length < 2 ^ 64)
OffsetFits (Pop slot) = slot < 16
OffsetFits (Extend slot lengths) = (slot < 16) × All (λ n. n < 2 ^ 64) lengths
OffsetFits (Offsets slot) = slot < 16
OffsetFits (Freeze slot) = slot < 16
OffsetFits (Slice slot first count) = (slot < 16) × (first < 2 ^ 64) × (count < 2 ^ 64)
OffsetFits (Zip offsets validity) = (offsets < 16) × (validity < 16)
