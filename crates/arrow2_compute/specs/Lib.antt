pub mod Comparisons
pub mod Take
pub mod Masks
pub mod Sizes
pub mod Extremes
