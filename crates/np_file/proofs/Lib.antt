pub mod Counting
pub mod Pieces
pub mod Fields
pub mod Elements
pub mod Laws
pub mod Turns
pub mod Printed
pub mod Writable
