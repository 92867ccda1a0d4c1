-- The listing of an image, assembled from the image's start, gives the image's bytes.
--
-- From the statement of a group to its bytes, from the lines of the listing to the image, and from its text to the
-- image, for images without skipped bytes.
use Rattle.std.specs.Prelude.{◌≡◌, ℕ, ◌+◌, ◌-◌, ◌<◌, ◌≤◌, Bool, true, false, List, ◌∷◌, length, map, take, Option, Some, None, Ok, []}
use Rattle.isa65.specs.Words.{Table, encoded, row_of, table_of}
use Rattle.da65.specs.Types.{Mode, Op, OperandKind, RangeType, Row}
use Rattle.isa65.specs.declared.row.OperandKind.TheVariants as kind
use Rattle.isa65.specs.declared.row.Row.TheVariants as row
use Rattle.stmt65.specs.Views as view
use Rattle.stmt65.specs.Words.{Definition, Distance, ExprView, Fixed, Fragment, Instr, NameValue, OperandsView, Single, SourceLine, State, ZeroPage, after, bytes_of, coding, distance, fault_of, final, free, initial, is_near, meaning, meaning_of, source_form, source_line, source_value, value_in, with_label, word_operand}
use Rattle.stmt65.specs.declared.source_line.Minus.TheVariants.{One}
use Rattle.info65.specs.Names as given
use Rattle.info65.specs.Words.{AreSegments}
use Rattle.map65.specs.Words.{AreBytes, Base, ImageView, IsPlaced, MapView, code_size, end_of, opcodes, role_of, target_of}
use Rattle.da65.specs.BaseNames.{AreSound, AddressNames, base_name, is_base, names_of}
use Rattle.da65.specs.Groups.{begins, group_bytes, group_len, skips}
use Rattle.da65.specs.Instructions.{instruction_in}
use Rattle.da65.specs.KnownNames.{KnowsAll, KnowsConstants, definition_of, definitions_of}
use Rattle.da65.specs.Listing.{ListingLine, lines_of, listing, text_of}
use Rattle.da65.specs.Shapes.{IsGroupOf}
use Rattle.da65.specs.Statements.{address_expr, is_forced, operands_of, statement_for, statement_in, zero_page_expr}

-- ---- what a listing says

-- a line, as it is read
abbrev pub reading_of_line : ListingLine → Option SourceLine
reading_of_line l = Some (with_label l.label (source_line l.statement))

-- what each line of a listing says
abbrev pub readings_of : MapView → List (Option SourceLine)
readings_of m = map reading_of_line (listing m)

-- ---- names

-- The names of a map are such that a listing assembles back: no two bases share a text, each lies in the address space,
-- and none after the address that it is for.
abbrev pub NamesAreSound : Type 0
NamesAreSound = (m : MapView) → IsPlaced m.image → AreBytes m.image.bytes → given.AreNames m.info.names → skips m ≡ false → AreSound m.image (names_of m)

-- Each base is defined in the listing exactly once, and its value is its address.
abbrev pub NamesAreDefinedOnce : Type 0
NamesAreDefinedOnce = (m : MapView) (b : ℕ) → IsPlaced m.image → AreBytes m.image.bytes → given.AreNames m.info.names → skips m ≡ false
    → is_base (names_of m) b ≡ true
    → definitions_of (base_name (names_of m) b) (final (initial free m.image.start) (readings_of m)).above ≡ definition_of (names_of m) b ∷ []

-- ---- expressions

-- an address by its name or as a number, an operand in the zero page, and an entry of a
-- return table, which is the address before
pub record HaveTheirValues (m : AddressNames) (all : List Definition) : Type 0 where
  pub address : (a : ℕ) → value_in all (source_value (address_expr m a)) ≡ Some a
  pub zero_page : (a : ℕ) → value_in all (source_value (zero_page_expr m a)) ≡ Some a
  pub return : (a : ℕ) (b : Base) → 0 < a → m.base_at a ≡ Some b → value_in all (NameValue b.text (a - b.address) One) ≡ Some (a - 1)

-- Each expression has the address or the word that it stands for.
abbrev pub ExpressionsHaveTheirValues : Type 0
ExpressionsHaveTheirValues = (image : ImageView) (m : AddressNames) (all : List Definition) → AreSound image m → KnowsAll m all → HaveTheirValues m all

-- ---- instructions

-- the bytes of the item that begins with the first of these
abbrev pub item_in : Table → List ℕ → List ℕ
item_in t bytes = take (code_size (instruction_in t bytes)) bytes

-- what the bytes of an operand of a kind stand for
abbrev pub operand_fragment : OperandKind → ExprView → Fragment
operand_fragment kind.Byte e = Single (source_value e)
operand_fragment kind.ZeroPage e = ZeroPage (source_value e)
operand_fragment kind.Word e = word_operand (source_value e)
operand_fragment kind.Distance e = Distance (source_value e)

abbrev pub row_fragments : Row → OperandsView → List Fragment
row_fragments (row.One pattern kind) (view.one e) = operand_fragment kind e ∷ []
row_fragments (row.Two first second) (view.two e f) = operand_fragment first e ∷ operand_fragment second f ∷ []
row_fragments _ _ = []

-- what the bytes after the opcode stand for in a mode
abbrev pub fragments_in : Mode → OperandsView → List Fragment
fragments_in m os = row_fragments (row_of m) os

-- written with `a:` or without, the instruction is coded by an opcode of its own mnemonic and
-- mode, with the fragments of that mode
pub record CodesInMode (s : State) (op : Op) (absolute : Bool) (os : OperandsView) : Type 0 where
  pub opcode : ℕ
  pub is_opcode : encoded (table_of s.cpu) op.mnemonic op.mode ≡ Some opcode
  pub coded : coding s (Instr op.mnemonic (source_form op.mode absolute os)) ≡ Some (Fixed opcode ∷ fragments_in op.mode os)

-- bytes that begin with an instruction whose operands can be written
pub record IsWritten (m : AddressNames) (t : Table) (a : ℕ) (bytes : List ℕ) (op : Op) (os : OperandsView) : Type 0 where
  pub are_bytes : AreBytes bytes
  pub begins : instruction_in t bytes ≡ Some op
  pub has : operands_of m op.mode a bytes ≡ Some os

-- If the instruction of an item can't be written, its statement is the item's bytes: of an undefined and a cut opcode,
-- and of an instruction whose target lies outside the address space.
abbrev pub UnwrittenIsBytes : Type 0
UnwrittenIsBytes = (m : AddressNames) (t : Table) (a : ℕ) (bytes : List ℕ) → AreBytes bytes → ((op : Op) (os : OperandsView) → IsWritten m t a bytes op os → ⊥)
    → statement_in m t a bytes ≡ view.bytes (item_in t bytes)

-- Each instruction is coded in the mode that it was decoded from, below the constant lines:
-- zero page or absolute is chosen back.
abbrev pub ModeIsChosenBack : Type 0
ModeIsChosenBack = (image : ImageView) (m : AddressNames) (p : ℕ → Bool) (s : State) (a : ℕ) (bytes : List ℕ) (op : Op) (os : OperandsView)
    → AreSound image m → KnowsConstants m p s.above → IsWritten m (table_of s.cpu) a bytes op os → CodesInMode s op (is_forced (table_of s.cpu) op bytes) os

-- A target that is written lies in the address space and in range, and its distance is the byte that was decoded.
abbrev pub TargetIsInRange : Type 0
TargetIsInRange = (next b target : ℕ) → next ≤ 65536 → b < 256 → target_of next b ≡ Some target
    → (target < 65536) × ((is_near next (Some target) ≡ true) × (distance next target ≡ b))

-- ---- items of code

-- in this state, whatever a text defines besides, a line has no fault, gives the
-- bytes, and leads to the address after them
pub record GivesBytes (all : List Definition) (s : State) (source : SourceLine) (bytes : List ℕ) : Type 0 where
  pub no_fault : fault_of all s (Some source) ≡ None
  pub gives : bytes_of all s (Some source) ≡ bytes
  pub leads : after s (Some source) ≡ record { at = s.at + length bytes; cpu = s.cpu; above = s.above; layout = s.layout }

-- a place for bytes below the constant lines, in a text that defines all names
pub record IsPlaceFor (image : ImageView) (m : AddressNames) (all : List Definition) (s : State) (bytes : List ℕ) : Type 0 where
  pub sound : AreSound image m
  pub known : KnowsAll m all
  -- these are defined above
  pub defined : ℕ → Bool
  pub constants : KnowsConstants m defined s.above
  pub are_bytes : AreBytes bytes
  pub some : 0 < length bytes
  pub room : s.at + length bytes ≤ 65536

-- The statement of each item of code gives the item's bytes: of an instruction, and of a cut, an undefined and one
-- whose target lies outside the address space.
abbrev pub ItemGivesItsBytes : Type 0
ItemGivesItsBytes = (image : ImageView) (m : AddressNames) (all : List Definition) (s : State) (bytes : List ℕ) → IsPlaceFor image m all s bytes
    → GivesBytes all s (source_line (statement_in m (table_of s.cpu) s.at bytes)) (item_in (table_of s.cpu) bytes)

-- ---- groups

-- what is known of the bytes where a group begins
pub record IsGroup (m : MapView) (a : ℕ) : Type 0 where
  pub some : 0 < length (group_bytes m a)
  pub long : length (group_bytes m a) ≡ group_len m a
  pub room : a + group_len m a ≤ end_of m.image
  pub of : IsGroupOf (opcodes m) (role_of m.info a) (group_bytes m a)

-- The bytes of each group are such.
abbrev pub GroupsAreGroups : Type 0
GroupsAreGroups = (m : MapView) (a : ℕ) → begins m a ≡ true → IsGroup m a

-- The statement of each group gives the group's bytes.
abbrev pub GroupGivesItsBytes : Type 0
GroupGivesItsBytes = (image : ImageView) (m : AddressNames) (all : List Definition) (s : State) (r : RangeType) (bytes : List ℕ) → IsPlaceFor image m all s bytes
    → IsGroupOf (table_of s.cpu) r bytes → GivesBytes all s (source_line (statement_for m (table_of s.cpu) r s.at bytes)) bytes

-- ---- the whole

-- What the lines of a listing without skipped bytes say means, from the image's start, the image's bytes.
abbrev pub ListingGivesImage : Type 0
ListingGivesImage = (m : MapView) → IsPlaced m.image → AreBytes m.image.bytes → given.AreNames m.info.names → skips m ≡ false
    → meaning_of free m.image.start (readings_of m) ≡ Ok m.image.bytes

-- The text of such a listing means, from the image's start, the image's bytes.
abbrev pub TextGivesImage : Type 0
TextGivesImage = (m : MapView) → IsPlaced m.image → AreBytes m.image.bytes → given.AreNames m.info.names → AreSegments m.info.segments → skips m ≡ false
    → meaning m.image.start (text_of (lines_of m)) ≡ Ok m.image.bytes
