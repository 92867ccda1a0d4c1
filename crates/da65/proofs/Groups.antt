-- Where groups begin, and which bytes they have.
pub mod RoleLemmas
pub mod GroupLemmas
pub mod StepLemmas
pub mod ShapeLemmas
pub mod InsideLemmas
pub mod DefinedLemmas
pub mod SkipLemmas
