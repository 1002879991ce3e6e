pub mod Dimensions
pub mod Divisors
pub mod Lists
pub mod Spans
pub mod Verdicts
pub mod Walks
