pub mod Iterators
pub mod Growth
pub mod Lengths
pub mod NewOffsets
pub mod NestedLists
pub mod Offsets
pub mod Failures
