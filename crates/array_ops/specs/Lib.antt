pub mod Arrays
pub mod Elements
pub mod Operands
pub mod Sources
pub mod Subscripts
