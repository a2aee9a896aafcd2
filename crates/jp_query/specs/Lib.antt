-- What the contracts of queries speak of.
pub mod Answers
pub mod Integers
pub mod Outcome
pub mod Places
pub mod Refusals
pub mod Relative
pub mod Conditions
pub mod ConditionOutcome
pub mod Connectives
pub mod Parsing
pub mod Reading
pub mod Status
