-- What the contracts of the syntax tree speak of.
pub mod View
pub mod Queries
pub mod SingularPaths
pub mod StepEquality
pub mod Sound
pub mod WellFormed
pub mod Filters
