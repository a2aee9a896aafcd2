-- The rows of tables.
pub mod Literals
pub mod Cells
pub mod Tables
pub mod Held
pub mod ReadBack
