mod Matrix
pub mod Opcodes
mod CandidateLaws
mod FilledLemmas
pub mod Finding
pub mod MnemonicLaws
pub mod ModeLaws
pub mod CpuNames
