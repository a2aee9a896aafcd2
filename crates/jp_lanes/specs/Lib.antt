-- What the contracts of lane kernels speak of.
pub mod First
pub mod Search
pub mod Word
