pub mod ArrayTexts
pub mod Items
pub mod Tables
