-- The statement of a group, with its operands by name.
--
-- An absolute operand and the target of a branch go by name if the address has one. An operand in the zero page goes by
-- name only if a constant line defines the base of the name. Each entry of an address or return table goes by its
-- target's name. Anything else is a number. `a:` stands before an absolute operand below $100 if the mnemonic has the
-- zero-page mode that is written alike. An undefined or cut opcode, an instruction whose target lies outside the
-- address space, and a leftover byte are written as bytes.
use Rattle.std.specs.Prelude.{ℕ, ◌+◌, ◌-◌, ◌*◌, ◌==◌, ◌&&◌, nat_lt, Bool, if◌then◌else◌, List, length, slice_index, take, Option, Some, None, is_some}
use Rattle.std.specs.Option.{option_map}
use Rattle.isa65.specs.Words.{Table, len_of, row_of, sibling_in, size_of}
use Rattle.da65.specs.Types.{BigEndian, ByteOrder, Dbyt, Directive, Dword, LittleEndian, Mode, Op, OperandKind, RangeType, Row}
use Rattle.isa65.specs.declared.row.OperandKind.TheVariants as kind
use Rattle.isa65.specs.declared.row.Row.TheVariants as row
use Rattle.stmt65.specs.declared.directive.Directive.TheVariants.{Word}
use Rattle.stmt65.specs.Views as view
use Rattle.stmt65.specs.Words.{ExprView, OperandsView, StatementView, TargetView}
use Rattle.info65.specs.Words.{layout_of}
use Rattle.info65.specs.declared.information.range.Entry.{Entry}
use Rattle.info65.specs.declared.information.range.Entry.TheVariants as entry
use Rattle.map65.specs.Words.{Base, MapView, entry_of, opcodes, return_target, role_of, target_of, unit_of, operand_word}
use Rattle.da65.specs.BaseNames.{AddressNames, names_of}
use Rattle.da65.specs.Groups.{group_bytes}
use Rattle.da65.specs.Instructions.{instruction_in}

-- ---- expressions

-- a number; or the name of a base, and how far the address lies after it
abbrev pub expr_from : ℕ → Option Base → ExprView
expr_from a None = view.number a
expr_from a (Some b) = view.name b.text (a - b.address)

-- an address goes by its name, if it has one
unfoldable pub address_expr : AddressNames → ℕ → ExprView
address_expr m a = expr_from a (m.base_at a)

-- a base that a constant line defines, if this is one
abbrev pub constant_base : AddressNames → Option Base → Option Base
constant_base m None = None
constant_base m (Some b) = if m.has_constant b.address then Some b else None

-- An operand in the zero page goes by name only if a constant line defines its base: otherwise an
-- assembler takes it for an absolute one.
unfoldable pub zero_page_expr : AddressNames → ℕ → ExprView
zero_page_expr m a = expr_from a (constant_base m (m.base_at a))

-- ---- operands, of an instruction's bytes

-- an operand of a kind, whose bytes begin at an index; `next` is the address after the instruction. The target of a
-- distance may lie outside the address space.
abbrev pub operand_expr : AddressNames → OperandKind → ℕ → ℕ → List ℕ → Option ExprView
operand_expr m kind.Byte next at bytes = Some (view.number (slice_index bytes at))
operand_expr m kind.ZeroPage next at bytes = Some (zero_page_expr m (slice_index bytes at))
operand_expr m kind.Word next at bytes = Some (address_expr m (slice_index bytes at + 256 * slice_index bytes (at + 1)))
operand_expr m kind.Distance next at bytes = option_map (address_expr m) (target_of next (slice_index bytes at))

abbrev pub both : Option ExprView → Option ExprView → Option OperandsView
both (Some e) (Some f) = Some (view.two e f)
both _ _ = None

abbrev pub row_operands : AddressNames → Row → ℕ → List ℕ → Option OperandsView
row_operands m row.Implied next bytes = Some view.none
row_operands m row.Accumulator next bytes = Some view.none
row_operands m (row.One pattern kind) next bytes = option_map (λ e. view.one e) (operand_expr m kind next 1 bytes)
row_operands m (row.Two first second) next bytes = both (operand_expr m first next 1 bytes) (operand_expr m second next (1 + size_of first) bytes)

-- The operands of an instruction in a mode at an address: none if its target lies outside the address space.
unfoldable pub operands_of : AddressNames → Mode → ℕ → List ℕ → Option OperandsView
operands_of m mode a bytes = row_operands m (row_of mode) (a + len_of mode) bytes

-- `a:` stands before an absolute operand below $100 if the mnemonic has the zero-page mode that is
-- written alike, which an assembler would take
abbrev pub is_forced : Table → Op → List ℕ → Bool
is_forced t op bytes = is_some (sibling_in t op) && nat_lt (operand_word bytes) 256

-- ---- code

abbrev pub bytes_statement : ℕ → List ℕ → StatementView
bytes_statement count bytes = view.bytes (take count bytes)

-- an instruction with its operands; if they can't be written, its bytes
abbrev pub written : Table → Op → List ℕ → Option OperandsView → StatementView
written t op bytes (Some os) = view.instr op (is_forced t op bytes) os
written t op bytes None = bytes_statement (len_of op.mode) bytes

abbrev pub statement_of : AddressNames → Table → ℕ → List ℕ → Option Op → StatementView
statement_of m t a bytes (Some op) = written t op bytes (operands_of m op.mode a bytes)
statement_of m t a bytes None = bytes_statement 1 bytes

-- the statement of code that has these bytes: its instruction, or its bytes
unfoldable pub statement_in : AddressNames → Table → ℕ → List ℕ → StatementView
statement_in m t a bytes = statement_of m t a bytes (instruction_in t bytes)

-- ---- entries of tables

-- the name of an address
abbrev pub target_by : ℕ → Base → TargetView
target_by a b = record { name = b.text; offset = a - b.address }

-- an entry in this form, by the name of its target, or as a number
abbrev pub entry_by : (TargetView → StatementView) → List ℕ → Option TargetView → StatementView
entry_by form bytes None = view.numbers Word bytes
entry_by form bytes (Some t) = form t

unfoldable pub address_entry : AddressNames → List ℕ → StatementView
address_entry m bytes = entry_by (λ t. view.addr t) bytes (option_map (target_by (entry_of bytes)) (m.base_at (entry_of bytes)))

abbrev pub rts_to : AddressNames → List ℕ → Option ℕ → StatementView
rts_to m bytes None = view.rts None
rts_to m bytes (Some a) = entry_by (λ t. view.rts (Some t)) bytes (option_map (target_by a) (m.base_at a))

-- the entry $FFFF leads to no address
unfoldable pub return_entry : AddressNames → List ℕ → StatementView
return_entry m bytes = rts_to m bytes (return_target (entry_of bytes))

-- ---- numbers

-- the directive of numbers of so many bytes in this order, more than one
abbrev pub directive_of : ℕ → ByteOrder → Directive
directive_of unit LittleEndian = if unit == 4 then Dword else Word
directive_of unit BigEndian = Dbyt

-- the numbers of a line, each of so many bytes in this order
abbrev pub numbers : ℕ → ByteOrder → List ℕ → StatementView
numbers unit order bytes = if unit == 1 then view.bytes bytes else view.numbers (directive_of unit order) bytes

-- ---- the statement

-- entries if there are bytes for one, else the leftover byte
abbrev pub entries_or_byte : ℕ → StatementView → List ℕ → StatementView
entries_or_byte unit entries bytes = if nat_lt (length bytes) unit then view.bytes bytes else entries

-- The statement of a line of entries of so many bytes. Skipped bytes have none.
abbrev pub statement_by : AddressNames → Table → ℕ → Entry → ℕ → List ℕ → StatementView
statement_by m t unit entry.Instruction a bytes = statement_in m t a bytes
statement_by m t unit (entry.Number order) a bytes = entries_or_byte unit (numbers unit order bytes) bytes
statement_by m t unit entry.Address a bytes = entries_or_byte unit (address_entry m bytes) bytes
statement_by m t unit entry.Return a bytes = entries_or_byte unit (return_entry m bytes) bytes
statement_by m t unit entry.Character a bytes = view.text bytes
statement_by m t unit entry.Skipped a bytes = view.blank

-- The statement of a group of a role, at an address, that has these bytes.
unfoldable pub statement_for : AddressNames → Table → RangeType → ℕ → List ℕ → StatementView
statement_for m t r a bytes = statement_by m t (unit_of r) (layout_of r).entry a bytes

-- The statement of the group that begins at an address.
abbrev pub statement_at : MapView → ℕ → StatementView
statement_at m a = statement_for (names_of m) (opcodes m) (role_of m.info a) a (group_bytes m a)
