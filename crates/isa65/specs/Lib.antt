-- the rules: modes, mnemonics, opcode tables, CPUs
pub mod Mode
pub mod Mnemonic
pub mod Candidates
pub mod Opcodes
pub mod Places
pub mod Mos6502
pub mod Cmos65Sc02
pub mod Rockwell65C02
pub mod Cpu
-- what the laws of an opcode set cite
pub mod OpcodeLaws
pub mod CpuLaws
pub mod Types
pub mod Words
