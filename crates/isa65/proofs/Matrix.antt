-- The opcodes as the data sheets print them: a matrix by the high digit and the low one.
use Rattle.std.proofs.Common.{◌≡◌, ℕ, ◌+◌, ◌*◌, List, [], ◌∷◌, ◌++◌, refl}
use Rattle.std.specs.Prelude.{◌&&◌, Option, Some, None, codes, map, if◌then◌else◌}
use Rattle.std.specs.List.{flat_map}
use Rattle.std.specs.Str.{bytes_eq}
use Rattle.isa65.specs.Words.{Abs, Absindx, Absx, Absy, Acc, Imm, Imp, Ind, Indx, Indy, Mode, Op, Rel, Zp, Zpind, Zprel, Zpx, Zpy, cmos_65sc02, decoded, mos_6502, rockwell_65c02, text_of}

-- a mode as the matrix shows it
abbrev mode_text : Mode → List ℕ
mode_text Imp = []
mode_text Acc = codes " a"
mode_text Imm = codes " #"
mode_text Zp = codes " zp"
mode_text Zpx = codes " zp,x"
mode_text Zpy = codes " zp,y"
mode_text Abs = codes " abs"
mode_text Absx = codes " abs,x"
mode_text Absy = codes " abs,y"
mode_text Ind = codes " (abs)"
mode_text Indx = codes " (zp,x)"
mode_text Indy = codes " (zp),y"
mode_text Zpind = codes " (zp)"
mode_text Absindx = codes " (abs,x)"
mode_text Rel = codes " rel"
mode_text Zprel = codes " zp,rel"

-- what an opcode stands for, or `-`
abbrev shown : Option Op → List ℕ
shown None = codes "-"
shown (Some op) = text_of op.mnemonic ++ mode_text op.mode

-- the cell of the 65C02, with `*` if the 6502 has no such opcode, and `+` if the 65SC02 has none either
abbrev marked : Option Op → Option Op → Option Op → List ℕ
marked None None None = codes "-"
marked None None last = shown last ++ codes " +"
marked None middle last = if bytes_eq (shown middle) (shown last) then shown last ++ codes " *" else codes "?"
marked first middle last = if bytes_eq (shown first) (shown middle) && bytes_eq (shown middle) (shown last) then shown last else codes "?"

abbrev cell : ℕ → List ℕ
cell b = marked (decoded mos_6502 b) (decoded cmos_65sc02 b) (decoded rockwell_65c02 b)

abbrev digits : List ℕ
digits = 0 ∷ 1 ∷ 2 ∷ 3 ∷ 4 ∷ 5 ∷ 6 ∷ 7 ∷ 8 ∷ 9 ∷ 10 ∷ 11 ∷ 12 ∷ 13 ∷ 14 ∷ 15 ∷ []

abbrev matrix : List (List ℕ)
matrix = map (λ high. flat_map (λ low. cell (high * 16 + low) ++ codes "; ") digits) digits

matrix_holds : matrix ≡
    codes "brk; ora (zp,x); -; -; tsb zp *; ora zp; asl zp; rmb0 zp +; php; ora #; asl a; -; tsb abs *; ora abs; asl abs; bbr0 zp,rel +; "
    ∷ codes "bpl rel; ora (zp),y; ora (zp) *; -; trb zp *; ora zp,x; asl zp,x; rmb1 zp +; clc; ora abs,y; inc a *; -; trb abs *; ora abs,x; asl abs,x; bbr1 zp,rel +; "
    ∷ codes "jsr abs; and (zp,x); -; -; bit zp; and zp; rol zp; rmb2 zp +; plp; and #; rol a; -; bit abs; and abs; rol abs; bbr2 zp,rel +; "
    ∷ codes "bmi rel; and (zp),y; and (zp) *; -; bit zp,x *; and zp,x; rol zp,x; rmb3 zp +; sec; and abs,y; dec a *; -; bit abs,x *; and abs,x; rol abs,x; bbr3 zp,rel +; "
    ∷ codes "rti; eor (zp,x); -; -; -; eor zp; lsr zp; rmb4 zp +; pha; eor #; lsr a; -; jmp abs; eor abs; lsr abs; bbr4 zp,rel +; "
    ∷ codes "bvc rel; eor (zp),y; eor (zp) *; -; -; eor zp,x; lsr zp,x; rmb5 zp +; cli; eor abs,y; phy *; -; -; eor abs,x; lsr abs,x; bbr5 zp,rel +; "
    ∷ codes "rts; adc (zp,x); -; -; stz zp *; adc zp; ror zp; rmb6 zp +; pla; adc #; ror a; -; jmp (abs); adc abs; ror abs; bbr6 zp,rel +; "
    ∷ codes "bvs rel; adc (zp),y; adc (zp) *; -; stz zp,x *; adc zp,x; ror zp,x; rmb7 zp +; sei; adc abs,y; ply *; -; jmp (abs,x) *; adc abs,x; ror abs,x; bbr7 zp,rel +; "
    ∷ codes "bra rel *; sta (zp,x); -; -; sty zp; sta zp; stx zp; smb0 zp +; dey; bit # *; txa; -; sty abs; sta abs; stx abs; bbs0 zp,rel +; "
    ∷ codes "bcc rel; sta (zp),y; sta (zp) *; -; sty zp,x; sta zp,x; stx zp,y; smb1 zp +; tya; sta abs,y; txs; -; stz abs *; sta abs,x; stz abs,x *; bbs1 zp,rel +; "
    ∷ codes "ldy #; lda (zp,x); ldx #; -; ldy zp; lda zp; ldx zp; smb2 zp +; tay; lda #; tax; -; ldy abs; lda abs; ldx abs; bbs2 zp,rel +; "
    ∷ codes "bcs rel; lda (zp),y; lda (zp) *; -; ldy zp,x; lda zp,x; ldx zp,y; smb3 zp +; clv; lda abs,y; tsx; -; ldy abs,x; lda abs,x; ldx abs,y; bbs3 zp,rel +; "
    ∷ codes "cpy #; cmp (zp,x); -; -; cpy zp; cmp zp; dec zp; smb4 zp +; iny; cmp #; dex; -; cpy abs; cmp abs; dec abs; bbs4 zp,rel +; "
    ∷ codes "bne rel; cmp (zp),y; cmp (zp) *; -; -; cmp zp,x; dec zp,x; smb5 zp +; cld; cmp abs,y; phx *; -; -; cmp abs,x; dec abs,x; bbs5 zp,rel +; "
    ∷ codes "cpx #; sbc (zp,x); -; -; cpx zp; sbc zp; inc zp; smb6 zp +; inx; sbc #; nop; -; cpx abs; sbc abs; inc abs; bbs6 zp,rel +; "
    ∷ codes "beq rel; sbc (zp),y; sbc (zp) *; -; -; sbc zp,x; inc zp,x; smb7 zp +; sed; sbc abs,y; plx *; -; -; sbc abs,x; inc abs,x; bbs7 zp,rel +; "
    ∷ []
matrix_holds = refl
