pub mod Comparisons
pub mod KernelLoops
pub mod Masks
pub mod ByteCounts
pub mod Keys
mod ItemsAtIndices
mod FilteredSlots
mod Choices
mod Extremes
