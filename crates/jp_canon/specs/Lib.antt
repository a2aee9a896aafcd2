pub mod Canonical
pub mod Layout
pub mod Members
