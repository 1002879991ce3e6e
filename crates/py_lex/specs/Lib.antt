pub mod Bytes
pub mod Words
pub mod Pieces
pub mod Layout
pub mod Lexed
pub mod Laws
pub mod Views
