pub mod OptionalValidity
pub mod Failures
pub mod ItemTexts
