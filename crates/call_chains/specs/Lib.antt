pub mod Calls
pub mod Chains
pub mod Known
pub mod Least
pub mod Numbers
pub mod Sets
pub mod Walks
