pub mod ErrorTexts
pub mod Failures
