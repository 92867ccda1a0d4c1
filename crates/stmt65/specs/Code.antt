-- What ties the code to the rules: what its values stand for, and in which form they hold it.
pub mod StatementViews
pub mod LineViews
pub mod Widths
pub mod PartViews
pub mod Found
pub mod Held
pub mod SourceLineViews
pub mod SymbolViews
pub mod CodingViews
pub mod MeaningViews
pub mod LateViews
pub mod LineEnds
