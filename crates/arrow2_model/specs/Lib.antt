pub mod Digits
pub mod Kernels
pub mod Lists
pub mod Rows
pub mod Shown
pub mod Tables
pub mod Touched
