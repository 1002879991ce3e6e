pub mod Answers
pub mod Effects
pub mod Faulting
pub mod Knowledge
pub mod Marks
pub mod Soundness
pub mod Tables
pub mod Uses
