-- Lemmas on children that are selected.
pub mod Lines
pub mod Walks
pub mod Members
pub mod Elements
pub mod NoMembers
pub mod Slices
pub mod Following
