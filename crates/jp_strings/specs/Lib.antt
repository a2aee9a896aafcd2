-- What the contracts speak of.
pub mod Points
pub mod Faults
pub mod Scalars
pub mod Halves
pub mod Plain
pub mod Counts
pub mod Unescaped
pub mod Within
