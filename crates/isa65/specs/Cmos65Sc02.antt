-- The opcodes of the 65SC02: those of the MOS 6502, and 27 more.
use Rattle.std.specs.Prelude.{◌∷◌, ◌++◌, []}
use Rattle.isa65.specs.Opcodes.{Table, none, in_columns, in_mode}
use Rattle.isa65.specs.Mos6502.{mos_6502}
use Rattle.isa65.specs.Types.{Abs, Absindx, Absx, Acc, Adc, And, Bit, Bra, Cmp, Dec, Eor, Imm, Imp, Inc, Jmp, Lda, Ora, Phx, Phy, Plx, Ply, Rel, Sbc, Sta, Stz, Trb, Tsb, Zp, Zpind, Zpx}

-- zeros and bits in memory
abbrev pub zeros_and_bits : Table
zeros_and_bits =
    in_columns (Imm ∷ Zp ∷ Zpx ∷ Abs ∷ Absx ∷ [])
    ((Stz, none ∷ 0x64 ∷ 0x74 ∷ 0x9C ∷ 0x9E ∷ []) ∷
    (Trb, none ∷ 0x14 ∷ none ∷ 0x1C ∷ none ∷ []) ∷
    (Tsb, none ∷ 0x04 ∷ none ∷ 0x0C ∷ none ∷ []) ∷
    (Bit, 0x89 ∷ none ∷ 0x34 ∷ none ∷ 0x3C ∷ []) ∷ [])

-- arithmetic through an address in the zero page
abbrev pub through_zero_page : Table
through_zero_page = in_mode Zpind
    ((Ora, 0x12) ∷ (And, 0x32) ∷ (Eor, 0x52) ∷ (Adc, 0x72) ∷
    (Sta, 0x92) ∷ (Lda, 0xB2) ∷ (Cmp, 0xD2) ∷ (Sbc, 0xF2) ∷ [])

-- the accumulator and the stack
abbrev pub registers : Table
registers =
    in_mode Acc ((Inc, 0x1A) ∷ (Dec, 0x3A) ∷ []) ++
    in_mode Imp ((Phx, 0xDA) ∷ (Plx, 0xFA) ∷ (Phy, 0x5A) ∷ (Ply, 0x7A) ∷ [])

-- a branch that is always taken, and a jump through a table
abbrev pub more_jumps : Table
more_jumps = in_mode Rel ((Bra, 0x80) ∷ []) ++ in_mode Absindx ((Jmp, 0x7C) ∷ [])

-- the 27 opcodes that the 6502 does not have
abbrev pub cmos_additions : Table
cmos_additions = zeros_and_bits ++ through_zero_page ++ registers ++ more_jumps

-- all 178 opcodes
abbrev pub cmos_65sc02 : Table
cmos_65sc02 = cmos_additions ++ mos_6502
