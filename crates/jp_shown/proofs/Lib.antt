-- Texts as they are shown, scalar by scalar.
mod Showing
