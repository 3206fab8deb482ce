pub mod Overwrites
pub mod Part
