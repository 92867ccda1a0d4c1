-- The opcodes of the MOS 6502, as its data sheet has them: a row for each mnemonic, a column for each addressing mode.
use Rattle.std.specs.Prelude.{◌∷◌, ◌++◌, []}
use Rattle.isa65.specs.Opcodes.{Table, none, in_columns, in_mode}
use Rattle.isa65.specs.Types.{Abs, Absx, Absy, Acc, Adc, And, Asl, Bcc, Bcs, Beq, Bit, Bmi, Bne, Bpl, Brk, Bvc, Bvs, Clc, Cld, Cli, Clv, Cmp, Cpx, Cpy, Dec, Dex, Dey, Eor, Imm, Imp, Inc, Ind, Indx, Indy, Inx, Iny, Jmp, Jsr, Lda, Ldx, Ldy, Lsr, Nop, Ora, Pha, Php, Pla, Plp, Rel, Rol, Ror, Rti, Rts, Sbc, Sec, Sed, Sei, Sta, Stx, Sty, Tax, Tay, Tsx, Txa, Txs, Tya, Zp, Zpx, Zpy}

-- loads, stores, arithmetic and logic with the accumulator
abbrev pub arithmetic : Table
arithmetic =
    in_columns (Imm ∷ Zp ∷ Zpx ∷ Abs ∷ Absx ∷ Absy ∷ Indx ∷ Indy ∷ [])
    ((Adc, 0x69 ∷ 0x65 ∷ 0x75 ∷ 0x6D ∷ 0x7D ∷ 0x79 ∷ 0x61 ∷ 0x71 ∷ []) ∷
    (And, 0x29 ∷ 0x25 ∷ 0x35 ∷ 0x2D ∷ 0x3D ∷ 0x39 ∷ 0x21 ∷ 0x31 ∷ []) ∷
    (Cmp, 0xC9 ∷ 0xC5 ∷ 0xD5 ∷ 0xCD ∷ 0xDD ∷ 0xD9 ∷ 0xC1 ∷ 0xD1 ∷ []) ∷
    (Eor, 0x49 ∷ 0x45 ∷ 0x55 ∷ 0x4D ∷ 0x5D ∷ 0x59 ∷ 0x41 ∷ 0x51 ∷ []) ∷
    (Lda, 0xA9 ∷ 0xA5 ∷ 0xB5 ∷ 0xAD ∷ 0xBD ∷ 0xB9 ∷ 0xA1 ∷ 0xB1 ∷ []) ∷
    (Ora, 0x09 ∷ 0x05 ∷ 0x15 ∷ 0x0D ∷ 0x1D ∷ 0x19 ∷ 0x01 ∷ 0x11 ∷ []) ∷
    (Sbc, 0xE9 ∷ 0xE5 ∷ 0xF5 ∷ 0xED ∷ 0xFD ∷ 0xF9 ∷ 0xE1 ∷ 0xF1 ∷ []) ∷
    (Sta, none ∷ 0x85 ∷ 0x95 ∷ 0x8D ∷ 0x9D ∷ 0x99 ∷ 0x81 ∷ 0x91 ∷ []) ∷ [])

-- shifts, increments and decrements
abbrev pub shifts : Table
shifts =
    in_columns (Acc ∷ Zp ∷ Zpx ∷ Abs ∷ Absx ∷ [])
    ((Asl, 0x0A ∷ 0x06 ∷ 0x16 ∷ 0x0E ∷ 0x1E ∷ []) ∷
    (Lsr, 0x4A ∷ 0x46 ∷ 0x56 ∷ 0x4E ∷ 0x5E ∷ []) ∷
    (Rol, 0x2A ∷ 0x26 ∷ 0x36 ∷ 0x2E ∷ 0x3E ∷ []) ∷
    (Ror, 0x6A ∷ 0x66 ∷ 0x76 ∷ 0x6E ∷ 0x7E ∷ []) ∷
    (Dec, none ∷ 0xC6 ∷ 0xD6 ∷ 0xCE ∷ 0xDE ∷ []) ∷
    (Inc, none ∷ 0xE6 ∷ 0xF6 ∷ 0xEE ∷ 0xFE ∷ []) ∷ [])

-- the index registers, and the test of bits
abbrev pub index_registers : Table
index_registers =
    in_columns (Imm ∷ Zp ∷ Zpx ∷ Zpy ∷ Abs ∷ Absx ∷ Absy ∷ [])
    ((Ldx, 0xA2 ∷ 0xA6 ∷ none ∷ 0xB6 ∷ 0xAE ∷ none ∷ 0xBE ∷ []) ∷
    (Ldy, 0xA0 ∷ 0xA4 ∷ 0xB4 ∷ none ∷ 0xAC ∷ 0xBC ∷ none ∷ []) ∷
    (Stx, none ∷ 0x86 ∷ none ∷ 0x96 ∷ 0x8E ∷ none ∷ none ∷ []) ∷
    (Sty, none ∷ 0x84 ∷ 0x94 ∷ none ∷ 0x8C ∷ none ∷ none ∷ []) ∷
    (Cpx, 0xE0 ∷ 0xE4 ∷ none ∷ none ∷ 0xEC ∷ none ∷ none ∷ []) ∷
    (Cpy, 0xC0 ∷ 0xC4 ∷ none ∷ none ∷ 0xCC ∷ none ∷ none ∷ []) ∷
    (Bit, none ∷ 0x24 ∷ none ∷ none ∷ 0x2C ∷ none ∷ none ∷ []) ∷ [])

-- jumps
abbrev pub jumps : Table
jumps =
    in_columns (Abs ∷ Ind ∷ [])
    ((Jmp, 0x4C ∷ 0x6C ∷ []) ∷
    (Jsr, 0x20 ∷ none ∷ []) ∷ [])

-- conditional branches
abbrev pub branches : Table
branches = in_mode Rel
    ((Bpl, 0x10) ∷ (Bmi, 0x30) ∷ (Bvc, 0x50) ∷ (Bvs, 0x70) ∷
    (Bcc, 0x90) ∷ (Bcs, 0xB0) ∷ (Bne, 0xD0) ∷ (Beq, 0xF0) ∷ [])

-- instructions without an operand
abbrev pub implied : Table
implied = in_mode Imp
    ((Brk, 0x00) ∷ (Php, 0x08) ∷ (Clc, 0x18) ∷ (Plp, 0x28) ∷ (Sec, 0x38) ∷
    (Rti, 0x40) ∷ (Pha, 0x48) ∷ (Cli, 0x58) ∷ (Rts, 0x60) ∷ (Pla, 0x68) ∷
    (Sei, 0x78) ∷ (Dey, 0x88) ∷ (Txa, 0x8A) ∷ (Tya, 0x98) ∷ (Txs, 0x9A) ∷
    (Tay, 0xA8) ∷ (Tax, 0xAA) ∷ (Clv, 0xB8) ∷ (Tsx, 0xBA) ∷ (Iny, 0xC8) ∷
    (Dex, 0xCA) ∷ (Cld, 0xD8) ∷ (Inx, 0xE8) ∷ (Nop, 0xEA) ∷ (Sed, 0xF8) ∷ [])

-- all 151 opcodes
abbrev pub mos_6502 : Table
mos_6502 = arithmetic ++ shifts ++ index_registers ++ jumps ++ branches ++ implied
