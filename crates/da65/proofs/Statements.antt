-- The statement of a group: its text, and the bytes that the text gives.
pub mod FragmentLaws
pub mod StandsLaws
pub mod TableLaws
pub mod EntryLemmas
pub mod EachStatement
pub mod LabelLaws
pub mod PrintLaws
pub mod GroupStands
pub mod Reassembly
