pub mod Ones
pub mod WordFunctions
