-- Lemmas on what passed through a device.
pub mod Devices
mod Transfers
pub mod Chains
mod Walks
