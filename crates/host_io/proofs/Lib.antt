pub mod ShelfLemmas
pub mod SlotLemmas
pub mod StreamLemmas
