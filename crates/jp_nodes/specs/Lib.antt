-- What the contracts of nodes in words, and of cursors over them, speak of.
pub mod Words
pub mod Kinds
pub mod Contents
pub mod Spots
pub mod Forms
pub mod Tapes
pub mod Cursors
