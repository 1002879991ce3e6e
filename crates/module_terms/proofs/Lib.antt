pub mod Loops
pub mod Sets
pub mod Inside
pub mod Weights
pub mod Blocks
pub mod Ends
pub mod Places
