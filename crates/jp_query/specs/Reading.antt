-- A reader of queries that computes: what stands at the front of some scalars, and the scalars after it.
pub mod Scalars
pub mod Numbers
pub mod Strings
pub mod Literals
pub mod Queries
