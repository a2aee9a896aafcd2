-- What the contracts of the cut speak of.
pub mod Machine
pub mod Cuts
pub mod Passing
pub mod Front
pub mod Holding
pub mod TextLayout
pub mod Worked
