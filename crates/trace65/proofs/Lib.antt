pub mod CommandLemmas
pub mod CheckLemmas
pub mod UnshownLemmas
mod UnshownRows
pub mod ReportLemmas
pub mod SkipsLemmas
mod TailLemmas
