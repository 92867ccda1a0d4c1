-- The types of the code that these definitions speak of, from one place.
pub use Rattle.isa65.specs.declared.cpu.Cpu.{Cpu}
pub use Rattle.isa65.specs.declared.cpu.Cpu.TheVariants.{M6502, M65C02, M65SC02}
pub use Rattle.isa65.specs.declared.mnemonic.Mnemonic.{Mnemonic}
pub use Rattle.isa65.specs.declared.mnemonic.Mnemonic.TheVariants.{Adc, And, Asl, Bbr0, Bbr1, Bbr2, Bbr3, Bbr4, Bbr5, Bbr6, Bbr7, Bbs0, Bbs1, Bbs2, Bbs3, Bbs4, Bbs5, Bbs6, Bbs7, Bcc, Bcs, Beq, Bit, Bmi, Bne, Bpl, Bra, Brk, Bvc, Bvs, Clc, Cld, Cli, Clv, Cmp, Cpx, Cpy, Dec, Dex, Dey, Eor, Inc, Inx, Iny, Jmp, Jsr, Lda, Ldx, Ldy, Lsr, Nop, Ora, Pha, Php, Phx, Phy, Pla, Plp, Plx, Ply, Rmb0, Rmb1, Rmb2, Rmb3, Rmb4, Rmb5, Rmb6, Rmb7, Rol, Ror, Rti, Rts, Sbc, Sec, Sed, Sei, Smb0, Smb1, Smb2, Smb3, Smb4, Smb5, Smb6, Smb7, Sta, Stx, Sty, Stz, Tax, Tay, Trb, Tsb, Tsx, Txa, Txs, Tya}
pub use Rattle.isa65.specs.declared.mnemonic.TheConstants.{PLACES}
pub use Rattle.isa65.specs.declared.mode.Mode.{Mode}
pub use Rattle.isa65.specs.declared.mode.Mode.TheVariants.{Abs, Absindx, Absx, Absy, Acc, Imm, Imp, Ind, Indx, Indy, Rel, Zp, Zpind, Zprel, Zpx, Zpy}
pub use Rattle.isa65.specs.declared.op.Op.{Op}
pub use Rattle.isa65.specs.declared.row.OperandKind.{OperandKind}
pub use Rattle.isa65.specs.declared.row.OperandKind.TheVariants.{Byte, Distance, Word, ZeroPage}
pub use Rattle.isa65.specs.declared.row.Pattern.{Pattern}
pub use Rattle.isa65.specs.declared.row.Pattern.TheVariants.{Direct, DirectX, DirectY, Immediate, Indirect, IndirectX, IndirectY}
pub use Rattle.isa65.specs.declared.row.Row.{Row}
pub use Rattle.isa65.specs.declared.row.Row.TheVariants.{Accumulator, Implied, One, Two}
