pub mod Sums
pub mod Comparisons
pub mod Pairs
pub mod Best
pub mod Casts
pub mod Selecting
