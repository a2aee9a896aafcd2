-- Lemmas on lines of context.
pub mod Kept
pub mod Writing
pub mod Showing
pub mod Standing
pub mod Marks
pub mod Stays
pub mod Near
pub mod Apart
pub mod InColours
