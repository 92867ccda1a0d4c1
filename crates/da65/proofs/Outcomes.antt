-- What a run lists its input by, and what it writes.
pub mod IncludeFacts
pub mod IncludeLemmas
pub mod RefusalLemmas
pub mod RunLaws
