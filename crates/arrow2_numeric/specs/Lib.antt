pub mod Aggregates
pub mod Pairs
pub mod Casts
pub mod MaskedBlocks
