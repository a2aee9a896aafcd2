-- What the contracts of masks speak of.
pub mod Ends
pub mod Machine
pub mod Positions
pub mod Runs
pub mod OneLine
pub mod Rows
pub mod Written
pub mod Found
pub mod Sinks
pub mod Scanned
pub mod Tokens
pub mod Validity
