-- Lemmas on rows in colours.
pub mod Sequences
pub mod Runs
