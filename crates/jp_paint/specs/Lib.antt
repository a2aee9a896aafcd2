-- Rows in colours.
pub mod Colours
pub mod Marked
pub mod Laws
