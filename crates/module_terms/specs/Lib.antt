pub mod Rows
pub mod Numpy
pub mod Calls
pub mod Expressions
pub mod Lines
pub mod Targets
