-- The names of addresses: their texts, and what they stand for.
pub mod NameTexts
pub mod BaseLemmas
pub mod TargetBounds
pub mod MapNames
