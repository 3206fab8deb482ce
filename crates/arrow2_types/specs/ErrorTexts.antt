-- The text of an error.
use Rattle.std.specs.Prelude.{◌≡◌, ℕ, List, [], ◌++◌, codes, string_bytes, Option, Some, None}
use Rattle.arrow2_types.specs.declared.error.Error.{Error}
use Rattle.arrow2_types.specs.declared.error.Error.TheVariants.{NotYetImplemented, External, Io, InvalidArgumentError, ExternalFormat, Overflow, OutOfSpec, OutOfMemory}

-- the text of an error, or none for an error of input or output, whose text std does not specify
abbrev pub error_text : Error → Option (List ℕ)
error_text (NotYetImplemented text) = Some (codes "Not yet implemented: " ++ string_bytes text)
error_text (External message text) = Some (codes "External error" ++ (string_bytes message ++ (codes ": " ++ string_bytes text)))
error_text (Io error) = None
error_text (InvalidArgumentError text) = Some (codes "Invalid argument error: " ++ string_bytes text)
error_text (ExternalFormat text) = Some (codes "External format error: " ++ string_bytes text)
error_text Overflow = Some (codes "Operation overflew the backing container.")
error_text (OutOfSpec text) = Some (string_bytes text)
error_text OutOfMemory = Some (codes "Out of memory")

-- an external error with an empty message and a text for which P holds; or out of memory
abbrev pub WrapsText : Error → (List ℕ → Type 0) → Type 0
WrapsText (External message text) P = (string_bytes message ≡ []) × P (string_bytes text)
WrapsText OutOfMemory P = Unit {0}
WrapsText (NotYetImplemented text) P = ⊥
WrapsText (Io error) P = ⊥
WrapsText (InvalidArgumentError text) P = ⊥
WrapsText (ExternalFormat text) P = ⊥
WrapsText Overflow P = ⊥
WrapsText (OutOfSpec text) P = ⊥
