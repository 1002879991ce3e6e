pub mod Lists
pub mod Equations
pub mod Weights
pub mod Checks
pub mod Indexing
pub mod Calls
pub mod Bindings
