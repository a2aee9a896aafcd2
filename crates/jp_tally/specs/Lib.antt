-- How many of each: the tally of rows, and its text.
pub mod Rows
pub mod Tallies
pub mod Counting
pub mod Standing
pub mod Texts
