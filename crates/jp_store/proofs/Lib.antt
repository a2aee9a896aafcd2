-- Lemmas of the store.
pub mod Kept
pub mod Renewed
pub mod Found
pub mod Built
pub mod Positions
pub mod Counted
pub mod Edited
pub mod Commits
pub mod Replaced
pub mod Measured
pub mod Loaded
