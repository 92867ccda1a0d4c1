-- Targets: the addresses that items refer to.
--
-- The operands of `jmp` to an absolute address, of `jsr` and of relative instructions are targets wherever they
-- lie, and so are the entries of address tables, and those of return tables plus one. The operands of all other
-- absolute modes are targets only inside the image, skipped bytes included. A branch out of the address space has
-- no target, nor has the return entry $FFFF. Zero-page operands, numbers and text are no targets, and undefined and
-- cut opcodes and leftover bytes have none.
use Rattle.std.specs.Prelude.{◌≡◌, ℕ, ◌+◌, ◌-◌, ◌*◌, ◌<◌, ◌==◌, ◌||◌, nat_le, nat_lt, Bool, if◌then◌else◌, List, slice_index, Option, Some, None}
use denote.Enum.Bare.{sameb}
use Rattle.isa65.specs.Words.{Table, decoded, len_of, row_of, size_of}
use Rattle.isa65.specs.contracts.mnemonic.Mnemonic as mnemonic
use Rattle.map65.specs.Types.{Direct, Distance, Entry, Jmp, Jsr, Mnemonic, Mode, One, Op, Pattern, RangeType, Row, Two, Word}
use Rattle.info65.specs.Words.{layout_of}
use Rattle.info65.specs.declared.information.range.Entry.TheVariants as entry
use Rattle.map65.specs.ImageView.{ImageView, bytes_from, is_inside}
use Rattle.map65.specs.Items.{item_len}
use Rattle.map65.specs.MapView.{MapView, opcodes}
use Rattle.map65.specs.Roles.{role_of}

-- ---- an instruction's bytes

-- the byte after the opcode
abbrev pub byte_of : List ℕ → ℕ
byte_of bytes = slice_index bytes 1

-- the word after the opcode, low byte first
abbrev pub operand_word : List ℕ → ℕ
operand_word bytes = slice_index bytes 1 + 256 * slice_index bytes 2

-- The target of a branch: the address after the instruction plus a signed byte, if that lies in $0000 to $FFFF. A byte
-- below $80 leads forward; any other leads back, by what it lacks of $100.
unfoldable pub target_of : ℕ → ℕ → Option ℕ
target_of next b =
    if nat_lt b 128 then (if nat_lt (next + b) 65536 then Some (next + b) else None)
    else (if nat_le (256 - b) next then Some (next - (256 - b)) else None)

-- ---- the target of an instruction

abbrev pub is_jump : Mnemonic → Bool
is_jump m = sameb mnemonic.the_type m Jmp || sameb mnemonic.the_type m Jsr

abbrev pub only_inside : ImageView → ℕ → Option ℕ
only_inside image t = if is_inside image t then Some t else None

-- where a word leads: that of a jump to an absolute address wherever it lies, any other only inside the image
abbrev pub word_target : ImageView → Mnemonic → Pattern → ℕ → Option ℕ
word_target image m Direct t = if is_jump m then Some t else only_inside image t
word_target image m pattern t = only_inside image t

-- the target of a branch, by its distance from the address after it
abbrev pub branch_target : Row → ℕ → List ℕ → Option ℕ
branch_target (One pattern Distance) next bytes = target_of next (byte_of bytes)
branch_target (Two first Distance) next bytes = target_of next (slice_index bytes (1 + size_of first))
branch_target row next bytes = None

abbrev pub row_target : ImageView → Mnemonic → Row → ℕ → List ℕ → Option ℕ
row_target image m (One pattern Word) next bytes = word_target image m pattern (operand_word bytes)
row_target image m row next bytes = branch_target row next bytes

-- the target of an instruction in a mode, at an address, of these bytes
unfoldable pub operand_target : ImageView → Mnemonic → Mode → ℕ → List ℕ → Option ℕ
operand_target image m mode a bytes = row_target image m (row_of mode) (a + len_of mode) bytes

-- ---- the target of an item

-- an instruction of which all bytes belong to the item, which has n
abbrev pub code_target : ImageView → Option Op → ℕ → ℕ → List ℕ → Option ℕ
code_target image None n a bytes = None
code_target image (Some op) n a bytes = if n == len_of op.mode then operand_target image op.mnemonic op.mode a bytes else None

-- the same, where the first byte is an opcode of this table
abbrev pub opcode_target : Table → ImageView → ℕ → ℕ → List ℕ → Option ℕ
opcode_target t image n a bytes = code_target image (decoded t (slice_index bytes 0)) n a bytes

-- the word of an entry, low byte first
abbrev pub entry_of : List ℕ → ℕ
entry_of bytes = slice_index bytes 0 + 256 * slice_index bytes 1

-- the address that a return with this word on the stack leads to
abbrev pub return_target : ℕ → Option ℕ
return_target word = if word == 65535 then None else Some (word + 1)

-- the target of an entry of n bytes at an address, whose bytes are the first of these
abbrev pub entry_target : MapView → Entry → ℕ → ℕ → List ℕ → Option ℕ
entry_target m entry.Instruction n a bytes = opcode_target (opcodes m) m.image n a bytes
entry_target m entry.Address n a bytes = if n == 2 then Some (entry_of bytes) else None
entry_target m entry.Return n a bytes = if n == 2 then return_target (entry_of bytes) else None
entry_target m (entry.Number order) n a bytes = None
entry_target m entry.Character n a bytes = None
entry_target m entry.Skipped n a bytes = None

-- the target of an item of this role and of n bytes at an address, whose bytes are the first of these
unfoldable pub target_for : MapView → RangeType → ℕ → ℕ → List ℕ → Option ℕ
target_for m r n a bytes = entry_target m (layout_of r).entry n a bytes

-- the target of the item that begins at the address; none if no item does
unfoldable pub target_at : MapView → ℕ → Option ℕ
target_at m a = target_for m (role_of m.info a) (item_len m a) a (bytes_from m.image a)

-- ---- the fact

-- an item of the image has this target
pub record IsTarget (m : MapView) (t : ℕ) : Type 0 where
  pub item : ℕ
  pub begins : 0 < item_len m item
  pub has : target_at m item ≡ Some t
