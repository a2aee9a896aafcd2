mod Answering
mod Asking
mod Boxes
mod Handles
mod Telling
mod Whole
