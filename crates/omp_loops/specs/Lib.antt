pub mod Serial
pub mod Loops
pub mod Seeking
pub mod Valid
