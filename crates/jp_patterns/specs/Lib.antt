-- What the contracts of patterns speak of.
pub mod Patterns
