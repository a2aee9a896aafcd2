-- Lemmas on the names of columns.
pub mod Standing
pub mod Members
pub mod Numbered
