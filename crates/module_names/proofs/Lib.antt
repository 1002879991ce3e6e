pub mod Loops
pub mod Steps
pub mod Inside
pub mod Weights
pub mod Firsts
pub mod Sets
