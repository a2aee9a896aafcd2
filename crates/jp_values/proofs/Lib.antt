-- Lemmas on values.
pub mod Bodies
pub mod Numerals
pub mod Lookups
pub mod Leaves
pub mod Inside
pub mod Sides
pub mod KeyOrder
pub mod Gathered
pub mod Constants
