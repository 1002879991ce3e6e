pub mod Bools
pub mod DivisorLemmas
pub mod FourLemmas
pub mod ListSays
pub mod SpanLemmas
pub mod TableLemmas
pub mod ViewLemmas
pub mod WalkLemmas
