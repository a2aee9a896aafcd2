-- Lemmas on the walk over a line.
pub mod Ahead
pub mod More
pub mod Quotes
mod Escapes
pub mod Bodies
pub mod Scans
pub mod Closing
pub mod NumberEnds
pub mod PlainNumbers
pub mod Labels
pub mod Scalars
pub mod Steps
pub mod Held
pub mod Deep
pub mod Reader
pub mod Nodes
pub mod Closed
pub mod Kept
pub mod Repeated
pub mod Refused
pub mod Statuses
pub mod Begins
mod Slots
