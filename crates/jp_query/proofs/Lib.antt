-- Laws between the reader of queries and what spells them.
pub mod LawTools
pub mod SoundLeaves
pub mod SoundLiterals
pub mod SoundTrees
pub mod Shrinks
pub mod Follows
pub mod LeafReads
pub mod LiteralReads
pub mod TreeSteps
pub mod ExpressionSteps
pub mod Complete
pub mod IntegerChanges
pub mod Statuses
pub mod SoundNumbers
-- Lemmas of the parser.
mod Alone
mod Digits
mod Faults
mod Loop
mod Outcomes
mod Quotes
mod RelativeOutcomes
mod Relatives
mod Runs
mod Segments
mod Spellings
mod Texts
