pub mod Columns
pub mod Keys
pub mod NestedLists
pub mod Rulesets
pub mod Runs
pub mod Words
pub mod Zips
