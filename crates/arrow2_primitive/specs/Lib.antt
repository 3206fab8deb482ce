pub mod Growth
pub mod Primitive
pub mod TypeTexts
