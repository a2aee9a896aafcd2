-- What the contracts of typing speak of.
pub mod CheckedConditions
pub mod Checks
pub mod Limits
pub mod Signatures
pub mod Walks
