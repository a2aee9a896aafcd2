-- Lemmas of the arguments of jpgrep.
pub mod Program
