-- What the laws speak of beside the definitions of jp_model.
pub mod Alike
pub mod Digits
pub mod Fallbacks
pub mod JsonTexts
pub mod Kinds
pub mod Nodes
pub mod Ordered
pub mod PatternTexts
pub mod Patterns
pub mod Powers
pub mod Queries
pub mod QueryTexts
pub mod Reordered
pub mod Scripts
pub mod Slices
pub mod Spans
pub mod Values
