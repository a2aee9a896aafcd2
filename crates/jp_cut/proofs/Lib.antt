-- Lemmas on the cut.
mod Depth
mod Taking
pub mod Passing
mod BracketBits
mod Blocks
mod Holding
mod MarkLaw
mod Reading
mod LineFeeds
mod TextsLaw
