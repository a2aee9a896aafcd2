-- What the contracts of the evaluator speak of.
pub mod Found
pub mod Expressions
pub mod Functions
pub mod Constants
pub mod Roots
pub mod Calls
pub mod Tallies
pub mod Programs
pub mod Compiled
pub mod Answers
pub mod Frames
pub mod Remembers
pub mod Questions
pub mod Indexing
pub mod Keys
