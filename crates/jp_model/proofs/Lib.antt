-- Lemmas on the definitions.
pub mod Pieces
pub mod Pattern
pub mod Steps
pub mod Seek
pub mod Guard
pub mod Numbered
pub mod Opened
pub mod Rows
pub mod Reader
pub mod LineSteps
pub mod LowestBit
pub mod Digits
