pub mod Weights
pub mod Folds
pub mod SetLaws
pub mod Steps
pub mod Runs
pub mod Fits
pub mod Walks
pub mod Modules
