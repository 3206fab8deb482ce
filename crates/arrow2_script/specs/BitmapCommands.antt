-- The commands on bitmaps, and how each is spelled.
use Rattle.std.specs.Prelude.{◌<◌, ◌^◌, ℕ, List, [], ◌∷◌, codes, Option, None, option_map, if◌then◌else◌, bytes_eq, decimal}
use Rattle.arrow2_script.specs.Arguments.{◌>>◌, no_words}
use Rattle.arrow2_script.specs.Words.{number_of, slot_of, bit_of, bits_of, bit_byte, bits_text}
use Rattle.arrow2_script.specs.declared.bitmap_command.BitmapCommand.{BitmapCommand}
use Rattle.arrow2_script.specs.declared.bitmap_command.BitmapCommand.TheVariants.{New, Push, Pop, Get, Freeze, Thaw, Slice, Count, Bits}

-- the command that the words after a name spell, if frozen bitmaps accept it; growing bitmaps accept some of these too
unfoldable pub frozen_command_of : List ℕ → List (List ℕ) → Option BitmapCommand
frozen_command_of name words =
    if bytes_eq name (codes "get") then option_map (λ p. Get p.0 p.1.0) ((slot_of >> number_of >> no_words) words)
    else if bytes_eq name (codes "thaw") then option_map (λ p. Thaw p.0) ((slot_of >> no_words) words)
    else if bytes_eq name (codes "slice") then option_map (λ p. Slice p.0 p.1.0 p.1.1.0) ((slot_of >> number_of >> number_of >> no_words) words)
    else if bytes_eq name (codes "count") then option_map (λ p. Count p.0) ((slot_of >> no_words) words)
    else if bytes_eq name (codes "bits") then option_map (λ p. Bits p.0) ((slot_of >> no_words) words)
    else None

-- the command on bitmaps that the words after a name spell
unfoldable pub bitmap_command_of : List ℕ → List (List ℕ) → Option BitmapCommand
bitmap_command_of name words =
    if bytes_eq name (codes "new") then option_map (λ p. New p.0 p.1.0) ((slot_of >> bits_of >> no_words) words)
    else if bytes_eq name (codes "push") then option_map (λ p. Push p.0 p.1.0) ((slot_of >> bit_of >> no_words) words)
    else if bytes_eq name (codes "pop") then option_map (λ p. Pop p.0) ((slot_of >> no_words) words)
    else if bytes_eq name (codes "freeze") then option_map (λ p. Freeze p.0) ((slot_of >> no_words) words)
    else frozen_command_of name words

-- the words of a command on bitmaps
abbrev pub bitmap_words : BitmapCommand → List (List ℕ)
bitmap_words (New slot bits) = codes "new" ∷ decimal slot ∷ bits_text bits ∷ []
bitmap_words (Push slot bit) = codes "push" ∷ decimal slot ∷ (bit_byte bit ∷ []) ∷ []
bitmap_words (Pop slot) = codes "pop" ∷ decimal slot ∷ []
bitmap_words (Get slot index) = codes "get" ∷ decimal slot ∷ decimal index ∷ []
bitmap_words (Freeze slot) = codes "freeze" ∷ decimal slot ∷ []
bitmap_words (Thaw slot) = codes "thaw" ∷ decimal slot ∷ []
bitmap_words (Slice slot offset length) = codes "slice" ∷ decimal slot ∷ decimal offset ∷ decimal length ∷ []
bitmap_words (Count slot) = codes "count" ∷ decimal slot ∷ []
bitmap_words (Bits slot) = codes "bits" ∷ decimal slot ∷ []

-- slots are below 16, and numbers fit 64 bits
abbrev pub BitmapFits : BitmapCommand → Type 0
BitmapFits (New slot bits) = slot < 16
BitmapFits (Push slot bit) = slot < 16
BitmapFits (Pop slot) = slot < 16
BitmapFits (Get slot index) = (slot < 16) × (index < 2 ^ 64)
BitmapFits (Freeze slot) = slot < 16
BitmapFits (Thaw slot) = slot < 16
BitmapFits (Slice slot offset length) = (slot < 16) × (offset < 2 ^ 64) × (length < 2 ^ 64)
BitmapFits (Count slot) = slot < 16
BitmapFits (Bits slot) = slot < 16
