-- The groups that the code lists, and their statements.
use Rattle.std.proofs.Common.{◌≡◌, ◌∙◌, ◌⊎◌, inl, inr, ℕ, ◌+◌, ◌<◌, ◌≤◌, List, length, Some, None, true, refl, ap, sym, subst, arith}
use Rattle.std.specs.Prelude.{is_some}
use Rattle.std.proofs.lemmas.List.{length-take}
use Rattle.isa65.specs.Words.{len_of, row_of}
use Rattle.da65.specs.Words.{IsGroupIn, IsGroupOf, IsInstructionIn, IsStatementOf, AddressNames, Op, RangeType, Row, instruction_in, is_forced, names_of, operands_at, operands_of, row_operands, statement_for, statement_in}
use Rattle.isa65.specs.declared.row.Row.TheVariants as row
use Rattle.info65.specs.declared.information.range.RangeType.TheVariants.{Code}
use Rattle.map65.specs.Words.{code_size, is_inside, opcodes, role_of}
use Rattle.map65.proofs.Public.{inside-if}
use Rattle.stmt65.specs.Views as view
use Rattle.stmt65.specs.Words.{OperandsView, StatementView}
use Rattle.da65.specs.declared.listing.group.ListedGroup.{ListedGroup}
use Rattle.da65.proofs.Groups.GroupLemmas.{group-some}
use Rattle.da65.proofs.Groups.ShapeLemmas.{group-shape}
use Rattle.isa65.proofs.ModeLaws.{len-small}
use Rattle.da65.proofs.Statements.EachStatement.{of_group}
use Rattle.da65.proofs.Statements.Reassembly.{as-instruction, undefined, unreached}

pub has-bytes : {A : Type 0} (g : ListedGroup A) → IsGroupIn g → 0 < length g.bytes.now
has-bytes g is = omega (arith, is.len_is, group-some g.listed.now g.index is.start.place is.start.inside is.start.shown)

-- its first byte lies in the image
pub is-inside : {A : Type 0} (g : ListedGroup A) → IsGroupIn g → is_inside g.listed.now.image g.address ≡ true
is-inside g is = inside-if g.listed.now g.address (omega (arith, is.address_is)) (omega (arith, is.address_is, is.start.inside))

-- they are those of its role
pub of-role : {A : Type 0} (g : ListedGroup A) → IsGroupIn g → IsGroupOf (opcodes g.listed.now) (role_of g.listed.now.info g.address) g.bytes.now
of-role g is = rw (is.address_is, is.bytes_are) (group-shape g.listed.now g.index is.start.place is.start.inside is.start.shown)

-- they are few, whatever statement they have
pub is-short : {A : Type 0} (g : ListedGroup A) → IsGroupIn g → length g.bytes.now ≤ 16
is-short g is =
    let bytes : List ℕ = g.bytes.now in
    of_group (names_of g.listed.now) (opcodes g.listed.now) 0 bytes (λ s bs. length bs ≤ 16)
    (record { front = λ n low high long. omega (arith, length-take n bytes, high); instruction = λ op os e f. omega (arith, length-take (len_of op.mode) bytes, len-small op.mode) })
    (record {
      plain = λ few. omega (arith, few);
      text = λ few. few;
      numbers = λ d table. omega (arith, table.1.1);
      address = λ b two e. omega (arith, two);
      nowhere = λ two e. omega (arith, two);
      return = λ b two other e. omega (arith, two);
    })
    (role_of g.listed.now.info g.address) (of-role g is)

-- its statement, by its own address and bytes
pub statement-is : {A : Type 0} (g : ListedGroup A) (s : StatementView) → IsGroupIn g
    → s ≡ statement_for (names_of g.listed.now) (opcodes g.listed.now) (role_of g.listed.now.info g.address) g.address g.bytes.now → IsStatementOf g s
statement-is g s is told = told ∙ rw (is.address_is, is.bytes_are) refl

-- ---- code

-- an item of code is an instruction, or one byte
code-item : {A : Type 0} (g : ListedGroup A) → IsGroupIn g → role_of g.listed.now.info g.address ≡ Code → code_size (instruction_in (opcodes g.listed.now) g.bytes.now) ≡ length g.bytes.now
code-item g is code = subst (λ (r : RangeType). IsGroupOf (opcodes g.listed.now) r g.bytes.now) code (of-role g is)

code-is : {A : Type 0} (g : ListedGroup A) (s : StatementView) → IsGroupIn g → role_of g.listed.now.info g.address ≡ Code
    → s ≡ statement_in (names_of g.listed.now) (opcodes g.listed.now) g.address g.bytes.now → IsStatementOf g s
unfolding statement_for
code-is g s is code told =
    statement-is g s is (told ∙ ap (λ (r : RangeType). statement_for (names_of g.listed.now) (opcodes g.listed.now) r g.address g.bytes.now) (sym code))

-- one that is no instruction is written as its bytes
pub no-instruction : {A : Type 0} (g : ListedGroup A) → IsGroupIn g → role_of g.listed.now.info g.address ≡ Code → instruction_in (opcodes g.listed.now) g.bytes.now ≡ None
    → IsStatementOf g (view.bytes g.bytes.now)
no-instruction g is code none =
    code-is g _ is code (sym (undefined (names_of g.listed.now) (opcodes g.listed.now) g.address g.bytes.now none (code-item g is code)))

-- it is the whole item
is-whole : {A : Type 0} (g : ListedGroup A) (op : Op) → IsInstructionIn g op → len_of op.mode ≡ length g.bytes.now
is-whole g op is = sym (ap code_size is.begins) ∙ code-item g is.group is.code

pub is-long : {A : Type 0} (g : ListedGroup A) (op : Op) → IsInstructionIn g op → len_of op.mode ≤ length g.bytes.now
is-long g op is = omega (arith, is-whole g op is)

-- so these are its operands
as-operands : {A : Type 0} (g : ListedGroup A) (op : Op) → IsInstructionIn g op → operands_at g op ≡ operands_of (names_of g.listed.now) op.mode g.address g.bytes.now
unfolding operands_of
as-operands g op is = ap (λ (n : ℕ). row_operands (names_of g.listed.now) (row_of op.mode) (g.address + n) g.bytes.now) (sym (is-whole g op is))

-- if its operands can't be written, its bytes are
pub no-operands : {A : Type 0} (g : ListedGroup A) (op : Op) → IsInstructionIn g op → None ≡ operands_at g op → IsStatementOf g (view.bytes g.bytes.now)
no-operands g op is none =
    code-is g _ is.group is.code
    (sym (unreached (names_of g.listed.now) (opcodes g.listed.now) g.address g.bytes.now op is.begins (ap is_some (none ∙ as-operands g op is)) (code-item g is.group is.code)))

-- any other is written as its instruction
pub with-operands : {A : Type 0} (g : ListedGroup A) (op : Op) (os : OperandsView) → IsInstructionIn g op
    → Some os ≡ operands_at g op → IsStatementOf g (view.instr op (is_forced (opcodes g.listed.now) op g.bytes.now) os)
with-operands g op os is has =
    code-is g _ is.group is.code (as-instruction (names_of g.listed.now) (opcodes g.listed.now) g.address g.bytes.now op os is.begins (has ∙ as-operands g op is))

-- ---- operands

-- a row without an operand has none
pub bare : (n : AddressNames) (r : Row) (next : ℕ) (bytes : List ℕ) → (r ≡ row.Implied) ⊎ (r ≡ row.Accumulator) → Some view.none ≡ row_operands n r next bytes
bare n r next bytes (inl is) = rw is refl
bare n r next bytes (inr is) = rw is refl
