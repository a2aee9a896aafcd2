-- Lines of context: the rows that a search tells, those of them that are shown, and in which groups.
pub mod Told
pub mod Groups
pub mod Steps
pub mod Standing
pub mod Worked
pub mod Colours
pub mod Near
