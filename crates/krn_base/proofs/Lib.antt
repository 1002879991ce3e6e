pub mod Division
pub mod Joins
pub mod Ranges
pub mod Shifts
pub mod Wrapping
