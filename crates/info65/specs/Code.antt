-- What ties the code to the rules: what contracts see of the code's own types, and what its parts return.
pub mod Classes
pub mod GroupLists
pub mod Groups
pub mod Includes
pub mod Index
pub mod Kept
pub mod Lookup
pub mod Names
pub mod Numbers
pub mod Pool
pub mod Reading
pub mod Results
pub mod SegmentTable
pub mod Segments
pub mod Steps
pub mod Texts
