-- What the contracts of exact decimals speak of.
pub mod Values
pub mod Reading
pub mod Keys
pub mod Magnitudes
pub mod Decimals
pub mod Steps
pub mod KeyLaws
