pub mod Filter
pub mod Tables
