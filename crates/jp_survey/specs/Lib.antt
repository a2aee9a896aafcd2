-- What is in lines: the paths of their nodes, and how many there are of each kind.
pub mod Paths
pub mod Folds
pub mod Places
pub mod Surveys
pub mod Counts
pub mod Foldings
pub mod Movings
pub mod Justified
pub mod Trees
pub mod Told
pub mod Seen
pub mod Held
pub mod Entries
pub mod Walked
pub mod Texts
