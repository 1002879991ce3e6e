pub mod Reads
pub mod Paths
pub mod Unassigned
pub mod Flows
pub mod Sets
