pub mod Extensions
pub mod Filter
pub mod Types
