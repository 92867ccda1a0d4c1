mod BaseLaws
mod CellLemmas
mod ChangeLemmas
mod ItemLaws
mod ItemLemmas
mod NameLemmas
mod NameLaws
mod NamingLemmas
mod PaintLemmas
mod PieceLaws
mod ReadLemmas
mod RunLemmas
mod MarkingLemmas
mod MarksLemmas
mod TargetLemmas
mod WriteLemmas
pub mod Public
