pub mod Words
pub mod Sets
pub mod Nodes
pub mod Seen
pub mod Listing
pub mod Places
pub mod Profile
pub mod Names
