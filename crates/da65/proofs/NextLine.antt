-- The next line of a listing, as the code puts it.
pub mod TakenLemmas
pub mod SegmentLemmas
pub mod CommentLemmas
pub mod MarkLemmas
pub mod NextLemmas
pub mod HeadingLemmas
pub mod ConstantLemmas
pub mod ListedGroupLemmas
