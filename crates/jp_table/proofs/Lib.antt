-- Lemmas of tables.
pub mod PlainBytes
pub mod Cells
pub mod Adding
pub mod Literals
pub mod Grammar
pub mod Telling
