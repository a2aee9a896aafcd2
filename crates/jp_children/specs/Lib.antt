-- What the contracts of children that are selected speak of.
pub mod Found
pub mod Walks
pub mod Steps
