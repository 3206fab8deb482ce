-- The texts that `{:?}` writes for arrays of native values, of byte strings and of texts.
pub use Rattle.arrow2_validity.specs.ItemTexts.{item_output, separator}
pub use Rattle.arrow2_text.specs.ArrayTexts.{binary_head, text_head, bytes_output}
