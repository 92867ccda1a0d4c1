-- The groups that the code lists.
use Rattle.std.specs.Prelude.{◌≡◌, ℕ, ◌+◌, ◌≤◌, Bool, List, Option, Some, length}
use Rattle.std.specs.Borrow.{Bor}
use Rattle.std.specs.Option.{option_copied}
use Rattle.da65.specs.Types.{ListingPlace, Op, OperandKind}
use Rattle.isa65.specs.Words.{row_of}
use Rattle.info65.specs.declared.information.range.RangeType.TheVariants.{Code}
use Rattle.map65.specs.Words.{opcodes, role_of}
use Rattle.da65.specs.BaseNames.{names_of}
use Rattle.da65.specs.Groups.{group_bytes, group_len}
use Rattle.stmt65.specs.Words.{ExprView, IsPrintable, OperandsView, StatementView}
use Rattle.da65.specs.Instructions.{instruction_in}
use Rattle.da65.specs.Lines.{IsGroupStart, AreUnnamed, IsLineOf, IsNext, MayFollow, group_left, groups_left, heading_lines, labelled_left, statement_line}
use Rattle.da65.specs.Listing.{forward_lines, has_empty_line, line_text, segment_lines}
use Rattle.da65.specs.Statements.{operand_expr, row_operands, statement_at}
use Rattle.da65.specs.Style.{style_of}
use Rattle.da65.specs.declared.listing.group.ListedGroup.{ListedGroup}

-- the group of the map that begins with its first byte; its statement can be printed, after its label if it has one
pub record IsGroupIn {A : Type 0} (g : ListedGroup A) : Type 0 where
  pub start : IsGroupStart g.listed.now g.index
  pub address_is : g.address ≡ g.listed.now.image.start + g.index
  pub bytes_are : g.bytes.now ≡ group_bytes g.listed.now (g.listed.now.image.start + g.index)
  pub len_is : length g.bytes.now ≡ group_len g.listed.now (g.listed.now.image.start + g.index)
  pub room : g.address + length g.bytes.now ≤ 65536
  pub label : MayFollow g.listed.now g.index (option_copied g.label)
  pub printable : IsPrintable (statement_at g.listed.now (g.listed.now.image.start + g.index))

-- this is its statement
abbrev pub IsStatementOf : {A : Type 0} → ListedGroup A → StatementView → Type 0
IsStatementOf g s = s ≡ statement_at g.listed.now (g.listed.now.image.start + g.index)

-- the text is that of the group's statement, after its label; `ends`: an empty line follows
pub record IsGroupLine {A : Type 0} (g : ListedGroup A) (text : List ℕ) (ends : Bool) : Type 0 where
  pub text_is : text ≡ line_text (style_of g.listed.now.info.settings) (statement_line g.listed.now g.index (option_copied g.label))
  pub ends_is : ends ≡ has_empty_line (style_of g.listed.now.info.settings) (statement_at g.listed.now (g.listed.now.image.start + g.index))

-- the same, and the place from which the lines after it are left
abbrev pub IsGroupNext : {A : Type 0} → ListedGroup A → List ℕ → ListingPlace → Type 0
IsGroupNext g text next = IsNext g.listed.now (labelled_left g.listed.now g.index (option_copied g.label)) text next

-- the same of the first of its lines from what has this number before its label on
abbrev pub IsNextFrom : {A : Type 0} → ListedGroup A → ℕ → List ℕ → ListingPlace → Type 0
IsNextFrom g n text next = IsNext g.listed.now (group_left g.listed.now g.index n) text next

-- what has this number before its label is this line, or there is none
abbrev pub IsHeading : {A : Type 0} → ListedGroup A → ℕ → List ℕ → Bool → Type 0
IsHeading g n text some = IsLineOf g.listed.now (heading_lines g.listed.now g.address n) text some

-- it enters its segment
abbrev pub IsSegmentLine : {A : Type 0} → ListedGroup A → List ℕ → Bool → Type 0
IsSegmentLine g text some = IsLineOf g.listed.now (segment_lines g.listed.now g.address) text some

-- it is the forward line of an address
abbrev pub IsForwardLine : {A : Type 0} → ListedGroup A → ℕ → List ℕ → Bool → Type 0
IsForwardLine g v text some = IsLineOf g.listed.now (forward_lines (names_of g.listed.now) g.address v) text some

-- before this number there is none
abbrev pub HasNoneBefore : {A : Type 0} → ListedGroup A → ℕ → Type 0
HasNoneBefore g n = group_left g.listed.now g.index n ≡ groups_left g.listed.now g.index

-- none of its addresses has a name
abbrev pub IsUnnamed : {A : Type 0} → ListedGroup A → Type 0
IsUnnamed g = AreUnnamed g.listed.now g.address (length g.bytes.now)

-- the same group with a label
abbrev pub labelled_group : {A : Type 0} → ListedGroup A → Bor (List ℕ) → ListedGroup A
labelled_group g label = record { listed = g.listed; index = g.index; address = g.address; bytes = g.bytes; label = Some label }

-- the group of the map is an item of code that begins with this instruction
pub record IsInstructionIn {A : Type 0} (g : ListedGroup A) (op : Op) : Type 0 where
  pub group : IsGroupIn g
  pub code : role_of g.listed.now.info g.address ≡ Code
  pub begins : instruction_in (opcodes g.listed.now) g.bytes.now ≡ Some op

-- the operand of this kind, whose bytes begin at an index of its bytes
abbrev pub operand_in : {A : Type 0} → ListedGroup A → OperandKind → ℕ → Option ExprView
operand_in g kind at = operand_expr (names_of g.listed.now) kind (g.address + length g.bytes.now) at g.bytes.now

-- the operands of this instruction, which its bytes are
abbrev pub operands_at : {A : Type 0} → ListedGroup A → Op → Option OperandsView
operands_at g op = row_operands (names_of g.listed.now) (row_of op.mode) (g.address + length g.bytes.now) g.bytes.now

-- these are its operands
abbrev pub AreOperandsIn : {A : Type 0} → ListedGroup A → Op → OperandsView → Type 0
AreOperandsIn g op operands = Some operands ≡ operands_at g op
