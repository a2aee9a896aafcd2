-- Laws of steps and of singular queries.
pub mod SameSteps
mod SingularWalk
