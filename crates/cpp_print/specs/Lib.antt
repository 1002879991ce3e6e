pub mod Words
pub mod Trees
pub mod Backwards
pub mod Guards
pub mod Statements
pub mod Programs
pub mod Printable
