-- What the arguments of jpgrep ask for.
pub mod Words
pub mod Colour
pub mod Pairs
pub mod Command
