-- The commands on the bits in which bitmaps stand, and how each is spelled.
use Rattle.std.specs.Prelude.{◌<◌, ◌^◌, ℕ, List, [], ◌∷◌, codes, Option, None, option_map, if◌then◌else◌, All, bytes_eq, decimal}
use Rattle.arrow2_script.specs.Arguments.{◌>>◌, no_words}
use Rattle.arrow2_script.specs.Words.{number_of, slot_of, bit_of, bit_byte, width_of, width_word, bytes_of, hex_text}
use Rattle.arrow2_script.specs.declared.storage_command.StorageCommand.{StorageCommand}
use Rattle.arrow2_script.specs.declared.storage_command.StorageCommand.TheVariants.{Raw, Set, Words, Runs}

-- the command on stored bits that the words after a name spell
unfoldable pub storage_command_of : List ℕ → List (List ℕ) → Option StorageCommand
storage_command_of name words =
    if bytes_eq name (codes "raw") then option_map (λ p. Raw p.0 p.1.0 p.1.1.0 p.1.1.1.0) ((slot_of >> bytes_of >> number_of >> number_of >> no_words) words)
    else if bytes_eq name (codes "set") then option_map (λ p. Set p.0 p.1.0 p.1.1.0) ((slot_of >> number_of >> bit_of >> no_words) words)
    else if bytes_eq name (codes "words") then option_map (λ p. Words p.0 p.1.0) ((slot_of >> width_of >> no_words) words)
    else if bytes_eq name (codes "runs") then option_map (λ p. Runs p.0) ((slot_of >> no_words) words)
    else None

-- the words of a command on stored bits
abbrev pub storage_words : StorageCommand → List (List ℕ)
storage_words (Raw slot bytes offset length) = codes "raw" ∷ decimal slot ∷ hex_text bytes ∷ decimal offset ∷ decimal length ∷ []
storage_words (Set slot index bit) = codes "set" ∷ decimal slot ∷ decimal index ∷ (bit_byte bit ∷ []) ∷ []
storage_words (Words slot width) = codes "words" ∷ decimal slot ∷ width_word width ∷ []
storage_words (Runs slot) = codes "runs" ∷ decimal slot ∷ []

-- slots are below 16, bytes below 256, and numbers fit 64 bits
abbrev pub StorageFits : StorageCommand → Type 0
StorageFits (Raw slot bytes offset length) = (slot < 16) × All (λ b. b < 256) bytes × (offset < 2 ^ 64) × (length < 2 ^ 64)
StorageFits (Set slot index bit) = (slot < 16) × (index < 2 ^ 64)
StorageFits (Words slot width) = slot < 16
StorageFits (Runs slot) = slot < 16
