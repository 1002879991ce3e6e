pub mod Header
pub mod Npy
pub mod Reading
pub mod Loading
pub mod Views
