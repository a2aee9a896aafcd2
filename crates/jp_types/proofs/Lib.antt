-- Lemmas of typing.
pub mod KnownWords
pub mod Arity
pub mod Exponents
pub mod Faults
pub mod Known
