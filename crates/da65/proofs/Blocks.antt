-- Blocks of lines, up to the whole listing: what they define, and their bytes.
pub mod EachLine
pub mod Knowledge
pub mod LineLaws
pub mod LineBlocks
pub mod NameBlocks
pub mod GroupBlocks
pub mod WholeBlock
pub mod TextLaws
