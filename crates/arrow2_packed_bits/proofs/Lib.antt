pub mod Buffer
pub mod ConstantBytes
pub mod PackedWords
pub mod Whole
pub mod WordPushes
pub mod WordsOfResults
