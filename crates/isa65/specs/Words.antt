-- The words of clauses and proofs, here and in the crates above, from one place.
pub use Rattle.isa65.specs.Types.{Abs, Absindx, Absx, Absy, Acc, Adc, Cpu, Imm, Imp, Ind, Indx, Indy, M6502, M65C02, M65SC02, Mnemonic, Mode, Op, Rel, Zp, Zpind, Zprel, Zpx, Zpy}
unfoldable pub use Rattle.isa65.specs.Candidates.{candidate, number_of}
pub use Rattle.isa65.specs.Cmos65Sc02.{cmos_65sc02}
pub use Rattle.isa65.specs.Cpu.{IsNameOf, cpu_text, table_of}
unfoldable pub use Rattle.isa65.specs.Cpu.{cpu_named}
pub use Rattle.isa65.specs.CpuLaws.{cmos_65sc02-sound, mos_6502-sound, rockwell_65c02-sound, table_of-sound}
pub use Rattle.isa65.specs.Mnemonic.{text_of}
unfoldable pub use Rattle.isa65.specs.Mnemonic.{mnemonic_named}
pub use Rattle.isa65.specs.Mode.{IsZeroPageOf, expression, len_of, pattern_text, row_len, row_of, row_text, size_of, written, zero_page_of, zero_page_row}
pub use Rattle.isa65.specs.Mos6502.{mos_6502}
pub use Rattle.isa65.specs.OpcodeLaws.{IsSound, encoded-decoded, opcode-lt, written_alike}
pub use Rattle.isa65.specs.Opcodes.{DifferInSize, Table, decoded, encoded, sibling_in}
pub use Rattle.isa65.specs.Places.{place_of, with_code}
pub use Rattle.isa65.specs.Rockwell65C02.{rockwell_65c02}
