-- The opcodes of the 65C02 with Rockwell's bit instructions: those of the 65SC02, and 32 more.
use Rattle.std.specs.Prelude.{◌∷◌, ◌++◌, []}
use Rattle.isa65.specs.Opcodes.{Table, in_mode}
use Rattle.isa65.specs.Cmos65Sc02.{cmos_65sc02}
use Rattle.isa65.specs.Types.{Bbr0, Bbr1, Bbr2, Bbr3, Bbr4, Bbr5, Bbr6, Bbr7, Bbs0, Bbs1, Bbs2, Bbs3, Bbs4, Bbs5, Bbs6, Bbs7, Rmb0, Rmb1, Rmb2, Rmb3, Rmb4, Rmb5, Rmb6, Rmb7, Smb0, Smb1, Smb2, Smb3, Smb4, Smb5, Smb6, Smb7, Zp, Zprel}

-- a bit of the zero page reset or set
abbrev pub bit_changes : Table
bit_changes = in_mode Zp
    ((Rmb0, 0x07) ∷ (Rmb1, 0x17) ∷ (Rmb2, 0x27) ∷ (Rmb3, 0x37) ∷ (Rmb4, 0x47) ∷ (Rmb5, 0x57) ∷ (Rmb6, 0x67) ∷ (Rmb7, 0x77) ∷
    (Smb0, 0x87) ∷ (Smb1, 0x97) ∷ (Smb2, 0xA7) ∷ (Smb3, 0xB7) ∷ (Smb4, 0xC7) ∷ (Smb5, 0xD7) ∷ (Smb6, 0xE7) ∷ (Smb7, 0xF7) ∷ [])

-- a branch if a bit of the zero page is reset or set
abbrev pub bit_branches : Table
bit_branches = in_mode Zprel
    ((Bbr0, 0x0F) ∷ (Bbr1, 0x1F) ∷ (Bbr2, 0x2F) ∷ (Bbr3, 0x3F) ∷ (Bbr4, 0x4F) ∷ (Bbr5, 0x5F) ∷ (Bbr6, 0x6F) ∷ (Bbr7, 0x7F) ∷
    (Bbs0, 0x8F) ∷ (Bbs1, 0x9F) ∷ (Bbs2, 0xAF) ∷ (Bbs3, 0xBF) ∷ (Bbs4, 0xCF) ∷ (Bbs5, 0xDF) ∷ (Bbs6, 0xEF) ∷ (Bbs7, 0xFF) ∷ [])

-- the 32 opcodes that the 65SC02 does not have
abbrev pub rockwell_additions : Table
rockwell_additions = bit_changes ++ bit_branches

-- all 210 opcodes
abbrev pub rockwell_65c02 : Table
rockwell_65c02 = rockwell_additions ++ cmos_65sc02
