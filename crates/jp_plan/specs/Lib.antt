-- What the contracts of plans speak of.
pub mod Behind
pub mod ByLine
pub mod Found
pub mod Passing
pub mod Paths
pub mod PlanViews
pub mod Planned
pub mod Routes
pub mod Turns
pub mod Walks
