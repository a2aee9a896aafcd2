-- Lemmas on the points of a body.
pub mod Reading
pub mod Escapes
pub mod Halves
pub mod Texts
pub mod Utf8
pub mod Sizes
pub mod Runs
pub mod Answers
pub mod Slices
pub mod Counts
pub mod Orders
pub mod Widths
