mod Law
mod Sizes
mod Signs
mod KeyOrder
mod TotalOrder
pub mod KeyLaw
mod Stripped
mod ReadDigits
mod Spelled
