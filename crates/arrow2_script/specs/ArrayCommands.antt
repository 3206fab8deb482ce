-- The commands on boolean arrays, and how each is spelled.
use Rattle.std.specs.Prelude.{◌<◌, ◌^◌, ℕ, List, [], ◌∷◌, codes, Option, None, option_map, IfSome, if◌then◌else◌, bytes_eq, decimal}
use Rattle.arrow2_script.specs.Arguments.{◌>>◌, no_words}
use Rattle.arrow2_script.specs.Words.{number_of, slot_of, optional_slot_of, optional_slot_word}
use Rattle.arrow2_script.specs.declared.array_command.ArrayCommand.{ArrayCommand}
use Rattle.arrow2_script.specs.declared.array_command.ArrayCommand.TheVariants.{New, List as Items, Nulls, Slice, And, Or}

-- the command on boolean arrays that the words after a name spell
unfoldable pub array_command_of : List ℕ → List (List ℕ) → Option ArrayCommand
array_command_of name words =
    if bytes_eq name (codes "anew") then option_map (λ p. New p.0 p.1.0 p.1.1.0) ((slot_of >> slot_of >> optional_slot_of >> no_words) words)
    else if bytes_eq name (codes "alist") then option_map (λ p. Items p.0) ((slot_of >> no_words) words)
    else if bytes_eq name (codes "anulls") then option_map (λ p. Nulls p.0) ((slot_of >> no_words) words)
    else if bytes_eq name (codes "aslice") then option_map (λ p. Slice p.0 p.1.0 p.1.1.0) ((slot_of >> number_of >> number_of >> no_words) words)
    else if bytes_eq name (codes "aand") then option_map (λ p. And p.0 p.1.0 p.1.1.0) ((slot_of >> slot_of >> slot_of >> no_words) words)
    else if bytes_eq name (codes "aor") then option_map (λ p. Or p.0 p.1.0 p.1.1.0) ((slot_of >> slot_of >> slot_of >> no_words) words)
    else None

-- the words of a command on boolean arrays
abbrev pub array_words : ArrayCommand → List (List ℕ)
array_words (New to values validity) = codes "anew" ∷ decimal to ∷ decimal values ∷ optional_slot_word validity ∷ []
array_words (Items slot) = codes "alist" ∷ decimal slot ∷ []
array_words (Nulls slot) = codes "anulls" ∷ decimal slot ∷ []
array_words (Slice slot offset length) = codes "aslice" ∷ decimal slot ∷ decimal offset ∷ decimal length ∷ []
array_words (And to left right) = codes "aand" ∷ decimal to ∷ decimal left ∷ decimal right ∷ []
array_words (Or to left right) = codes "aor" ∷ decimal to ∷ decimal left ∷ decimal right ∷ []

-- slots are below 16, and numbers fit 64 bits
abbrev pub ArrayFits : ArrayCommand → Type 0
ArrayFits (New to values validity) = (to < 16) × (values < 16) × IfSome validity (λ n. n < 16)
ArrayFits (Items slot) = slot < 16
ArrayFits (Nulls slot) = slot < 16
ArrayFits (Slice slot offset length) = (slot < 16) × (offset < 2 ^ 64) × (length < 2 ^ 64)
ArrayFits (And to left right) = (to < 16) × (left < 16) × (right < 16)
ArrayFits (Or to left right) = (to < 16) × (left < 16) × (right < 16)
