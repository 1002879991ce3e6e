pub mod Folded
pub mod Copies
pub mod Tallies
pub mod Promise
