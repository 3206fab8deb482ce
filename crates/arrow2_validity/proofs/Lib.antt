pub mod ValidItems
pub mod Slots
pub mod Alike
pub mod ArrayTexts
