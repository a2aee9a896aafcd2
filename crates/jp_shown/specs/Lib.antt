-- Texts from outside as messages show them.
pub mod Texts
