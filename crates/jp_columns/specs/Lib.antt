-- What the contracts of the names of columns speak of.
pub mod Names
pub mod Columns
