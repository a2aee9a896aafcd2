-- What the contracts of the engine speak of.
pub mod Arguments
pub mod Buffered
pub mod Commands
pub mod Ends
pub mod Found
pub mod Listed
pub mod Marks
pub mod Passed
pub mod Refusals
pub mod Replies
pub mod Runs
pub mod Sessions
pub mod Sources
pub mod Words
