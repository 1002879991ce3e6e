pub mod Buffers
pub mod Checked
pub mod Flats
pub mod Forms
mod Layers
pub mod Loads
pub mod Loops
pub mod Modules
pub mod Runs
pub mod Saves
pub mod Theorem
