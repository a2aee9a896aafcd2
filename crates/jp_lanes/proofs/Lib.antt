-- Lemmas on lanes and on the bits of words.
pub mod Cases
pub mod FirstLanes
pub mod LaneClasses
pub mod SearchLanes
pub mod Words
