-- What the proofs of plans share.
pub mod ByLine
pub mod Entries
pub mod Evaluated
pub mod Explained
pub mod Guards
pub mod Passing
pub mod Paths
pub mod Prefixes
pub mod Sounds
pub mod Spelled
pub mod Starts
pub mod Steps
pub mod Told
pub mod Turns
pub mod Views
pub mod Walks
