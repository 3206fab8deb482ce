pub mod Cuts
pub mod Cursor
pub mod Runs
pub mod Selections
pub mod Slots
pub mod Zipped
pub mod Zips
