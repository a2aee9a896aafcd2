-- Lemmas on marks, words and lines.
pub mod Bits
mod Windows
mod Restart
mod Escapes
mod BlockWords
mod LineLaw
pub mod Positions
mod Pieces
mod LineMore
mod Along
mod Chunks
mod SetBits
mod ByteRows
mod ByteSteps
mod LineBlocks
mod RowsLaw
mod SinkLaw
mod SinkPositions
mod Growth
mod Joined
mod FoundLaw
mod LastBlock
mod LinesLaw
mod TextLines
mod Scans
mod TokenLaw
mod Unchanged
