pub mod Names
pub mod Rows
pub mod Sorts
pub mod Turns
