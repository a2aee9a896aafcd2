-- Lemmas of rows.
mod Printed
mod Turns
mod Plain
mod Named
mod Summaries
mod Ends
mod Blocks
