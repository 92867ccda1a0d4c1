mod LineLaws
mod NameLemmas
pub mod Public
