-- What is told, as text.
pub mod Texts
