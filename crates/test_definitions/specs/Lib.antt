-- What worked examples speak of.
pub mod Written
pub mod Texts
