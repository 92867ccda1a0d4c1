-- Where an instruction leads.
--
-- The instruction of an address begins there: the address is code of the image, its opcode is defined, and all its
-- bytes lie in the image. It leads to the address after it, but for `jmp`, `bra`, `rts`, `rti` and `brk`, and to the
-- target of a relative mode, of `jmp` or of `jsr` to an absolute address; to each of them only inside the image. A call
-- that text follows leads to the address after the text.
use Rattle.std.specs.Prelude.{◌≡◌, ◌⊎◌, ℕ, ◌+◌, ◌||◌, nat_le, Bool, List, if◌then◌else◌, Option, Some, None, option_and_then}
use denote.Enum.Bare.{sameb}
use Rattle.isa65.specs.Words.{decoded, len_of, row_of}
use Rattle.isa65.specs.contracts.mnemonic.Mnemonic as mnemonic
use Rattle.reach65.specs.Types.{Bra, Brk, Direct, Jmp, Jsr, Mnemonic, Mode, One, Op, RangeType, Row, Rti, Rts, Tag, Word}
use Rattle.info65.specs.declared.information.range.RangeType.TheVariants as role
use Rattle.map65.specs.Words.{ImageView, MapView, branch_target, byte_at, bytes_from, end_of, is_jump, only_inside, opcodes, role_at, operand_word}
use Rattle.reach65.specs.Inlines.{inline_of, text_end}

-- a map, and the groups `#: ..` of its information file
pub record FlowView : Type 0 where
  pub map : MapView
  pub tags : List Tag

-- ---- the instruction of an address

-- what the opcode at an address of this role stands for
abbrev pub op_in : MapView → Option RangeType → ℕ → Option Op
op_in m (Some role.Code) a = decoded (opcodes m) (byte_at m.image a)
op_in m r a = None

-- all bytes of the instruction lie in the image
abbrev pub if_whole : MapView → ℕ → Option Op → Option Op
if_whole m a None = None
if_whole m a (Some op) = if nat_le (a + len_of op.mode) (end_of m.image) then Some op else None

unfoldable pub instruction_at : MapView → ℕ → Option Op
instruction_at m a = if_whole m a (op_in m (role_at m a) a)

-- ---- where it leads

abbrev pub is : Mnemonic → Mnemonic → Bool
is m n = sameb mnemonic.the_type m n

-- the next instruction does not run after it
abbrev pub is_last : Mnemonic → Bool
is_last m = is m Jmp || is m Bra || is m Rts || is m Rti || is m Brk

-- a jump goes to its absolute operand
abbrev pub row_goal : Mnemonic → Row → ℕ → List ℕ → Option ℕ
row_goal m (One Direct Word) next bytes = if is_jump m then Some (operand_word bytes) else None
row_goal m row next bytes = branch_target row next bytes

-- the address that an instruction of these bytes goes to by its operand
unfoldable pub goal_of : Mnemonic → Mode → ℕ → List ℕ → Option ℕ
goal_of m mode a bytes = row_goal m (row_of mode) (a + len_of mode) bytes

abbrev pub goal_by : MapView → ℕ → Option Op → Option ℕ
goal_by m a None = None
goal_by m a (Some op) = option_and_then (only_inside m.image) (goal_of op.mnemonic op.mode a (bytes_from m.image a))

-- the address that the instruction goes to by its operand
unfoldable pub goal_at : MapView → ℕ → Option ℕ
goal_at m a = goal_by m a (instruction_at m a)

-- ---- what comes after it

-- what the groups say of the text behind an instruction that goes to this address by its operand, if it calls that
abbrev pub text_by : List Tag → Mnemonic → Option ℕ → Option Tag
text_by tags m to = if is m Jsr then option_and_then (inline_of tags) to else None

-- what the information file says of the text behind the instruction
unfoldable pub text_of : FlowView → ℕ → Op → Option Tag
text_of f a op = text_by f.tags op.mnemonic (goal_of op.mnemonic op.mode a (bytes_from f.map.image a))

abbrev pub end_by : ImageView → ℕ → Option Tag → Option ℕ
end_by image a None = Some a
end_by image a (Some t) = text_end image t.size a

-- the address after the instruction, and after the text behind it: none if the text does not end
unfoldable pub end_after : FlowView → ℕ → Op → Option ℕ
end_after f a op = end_by f.map.image (a + len_of op.mode) (text_of f a op)

-- the same, if code goes on there, in the image
abbrev pub next_by : ImageView → Mnemonic → Option ℕ → Option ℕ
next_by image m end = if is_last m then None else option_and_then (only_inside image) end

abbrev pub next_of : FlowView → ℕ → Option Op → Option ℕ
next_of f a None = None
next_of f a (Some op) = next_by f.map.image op.mnemonic (end_after f a op)

-- the address after the instruction and its text, if it leads there
unfoldable pub next_at : FlowView → ℕ → Option ℕ
next_at f a = next_of f a (instruction_at f.map a)

-- the instruction at the first address leads to the second, in the image
abbrev pub LeadsTo : FlowView → ℕ → ℕ → Type 0
LeadsTo f a b = (next_at f a ≡ Some b) ⊎ (goal_at f.map a ≡ Some b)
