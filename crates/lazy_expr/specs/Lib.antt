pub mod Table
pub mod Plain
pub mod Promise
pub mod Lowered
pub mod Valid
