pub mod Values
pub mod ArrayTexts
pub mod Binary
pub mod Growth
pub mod Failures
