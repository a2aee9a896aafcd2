-- What a search tells, and what a sink makes of it.
pub mod Events
pub mod Telling
pub mod Texts
