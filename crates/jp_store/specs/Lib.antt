-- What the contracts of the store speak of.
pub mod Collections
pub mod Faults
pub mod Loads
pub mod Stored
pub mod Edits
pub mod Collected
