-- Laws of tapes.
pub mod Spots
pub mod Places
pub mod Parents
pub mod Packed
mod Halves
pub mod Unpacking
pub mod Bounds
pub mod Stands
pub mod Sound
pub mod Contents
pub mod Trees
pub mod Packing
pub mod Cursors
pub mod Truncated
