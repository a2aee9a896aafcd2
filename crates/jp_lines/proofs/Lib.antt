-- Lemmas on lines that are read.
pub mod Parts
pub mod LinesRead
pub mod Sizes
pub mod Blank
