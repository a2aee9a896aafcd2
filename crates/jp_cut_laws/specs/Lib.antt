-- What the laws speak of.
pub mod Elements
pub mod Values
