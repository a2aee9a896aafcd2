-- What the contracts of the builder speak of.
pub mod Places
pub mod Names
pub mod Keys
pub mod Ahead
pub mod Reading
pub mod Machine
pub mod Reader
pub mod Nodes
pub mod Fresh
pub mod Refusals
pub mod Parts
