-- Sets of values.
pub mod Hashes
pub mod Slots
pub mod Texts
pub mod Sets
