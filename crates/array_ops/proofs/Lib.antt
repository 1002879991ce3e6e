pub mod Mapped
pub mod Spreading
