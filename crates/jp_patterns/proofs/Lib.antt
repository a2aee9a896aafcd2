-- Lemmas of patterns.
mod Names
