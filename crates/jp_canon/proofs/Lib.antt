-- Lemmas on canonical text.
pub mod Appends
pub mod Characters
pub mod ByName
pub mod Exponents
pub mod Joined
pub mod Layouts
pub mod Listed
pub mod NameOrder
pub mod Numbers
pub mod Printed
pub mod SortedParts
