-- What ties the code to the rules: what its parts have done, for each of their results.
pub mod Bases
pub mod Layout
pub mod ListedGroups
pub mod NamedCells
pub mod Preparing
pub mod Refusals
pub mod SegmentReentry
