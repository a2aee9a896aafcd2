-- What the contracts of values speak of.
pub mod Scalars
pub mod Values
pub mod Members
pub mod ByName
pub mod Keys
pub mod KeyLaws
pub mod Constants
