pub mod CommandLemmas
pub mod PassingLemmas
