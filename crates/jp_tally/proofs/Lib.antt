-- Proofs on tallies.
pub mod Listing
pub mod Joining
pub mod Weights
pub mod Ascending
pub mod Made
pub mod Together
pub mod OneMore
pub mod Telling
pub mod Ranks
pub mod CellCuts
pub mod Bodies
pub mod Sums
pub mod Unique
