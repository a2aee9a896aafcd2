-- What the contracts of lines that are read speak of.
pub mod Stored
pub mod Views
pub mod Batches
