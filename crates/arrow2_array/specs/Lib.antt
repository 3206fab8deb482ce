pub mod ArrayTexts
pub mod Growth
pub mod Items
pub mod Kleene
