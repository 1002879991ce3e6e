pub mod HeadKeys
pub mod UndoLemmas
pub mod Flaws
pub mod Blocks
pub mod BlockWalks
pub mod KernelWalks
