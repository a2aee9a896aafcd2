-- Lemmas of the evaluator.
pub mod Sizes
pub mod Lists
pub mod Nodelists
pub mod Kept
pub mod Totals
pub mod Goes
pub mod Views
pub mod Called
pub mod Descendants
pub mod Meanings
pub mod Linking
pub mod Compiled
pub mod FromRoot
pub mod Patterns
pub mod Answered
pub mod Entered
pub mod Given
pub mod Origins
pub mod Following
pub mod Childless
mod Literals
mod Remembered
pub mod Remembering
mod Runs
mod Tables
