-- Lemmas of sets.
pub mod Equal
pub mod Lines
pub mod Sources
pub mod Order
