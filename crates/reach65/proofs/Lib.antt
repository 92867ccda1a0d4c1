pub mod FlowLemmas
pub mod StepsLemmas
pub mod TableLemmas
pub mod ReachedLemmas
pub mod TakenLemmas
pub mod RangesLemmas
