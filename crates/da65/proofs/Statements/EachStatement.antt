-- What holds of each statement that an item of code or a group can have, form by form.
use Rattle.std.proofs.Common.{◌≡◌, ◌∙◌, ℕ, ◌+◌, ◌<◌, ◌≤◌, ◌==◌, List, length, take, Some, None, ap, subst, arith}
use Rattle.std.proofs.lemmas.Bool.{cond_both, eqb-false, eqb-true, ltb-false, ltb-true}
use Rattle.std.proofs.lemmas.List.{take_all}
use Rattle.isa65.specs.Words.{Table, len_of}
use Rattle.isa65.proofs.ModeLaws.{len-positive, len-small}
use Rattle.da65.specs.Words.{Address, Character, Directive, Instruction, IsGroupOf, AddressNames, Number, Op, RangeType, Return, Skipped, address_entry, bytes_statement, directive_of, entries_or_byte, instruction_in, is_forced, item_in, limit_of, operands_of, return_entry, statement_by, statement_for, statement_in, target_by}
use Rattle.info65.proofs.Public.{layout_entry}
use Rattle.info65.specs.Words.{IsEntry, layout_of}
use Rattle.info65.specs.declared.information.range.Entry.{Entry}
use Rattle.stmt65.specs.declared.directive.Directive.TheVariants.{Word}
use Rattle.stmt65.specs.Words.{IsTable, OperandsView, StatementView}
use Rattle.stmt65.specs.Views as view
use Rattle.map65.specs.Words.{Base, entry_of, unit_of}
use Rattle.da65.specs.Shapes.{IsLineOf}
use Rattle.da65.proofs.Statements.EntryLemmas.{address_bytes, are_table, directive_is, few_entries, number_small}
use Rattle.da65.proofs.Statements.StandsLaws.{begins_with}

-- of the statements that an item of code can have, each with its bytes: some of the first bytes, or an instruction
pub record OfCode (m : AddressNames) (t : Table) (a : ℕ) (bytes : List ℕ) (P : StatementView → List ℕ → Type 0) : Type 0 where
  pub front : (n : ℕ) → 1 ≤ n → n ≤ 8 → (0 < length bytes → n ≤ length bytes) → P (bytes_statement n bytes) (take n bytes)
  pub instruction : (op : Op) (os : OperandsView) → instruction_in t bytes ≡ Some op → operands_of m op.mode a bytes ≡ Some os → P (view.instr op (is_forced t op bytes) os) (take (len_of op.mode) bytes)

-- of those that a line of a table can have: bytes, a text, numbers, an address, the entry $FFFF of a return table, and another one
pub record OfTable (m : AddressNames) (bytes : List ℕ) (P : StatementView → List ℕ → Type 0) : Type 0 where
  pub plain : length bytes ≤ 8 → P (view.bytes bytes) bytes
  pub text : length bytes ≤ 16 → P (view.text bytes) bytes
  pub numbers : (d : Directive) → IsTable d bytes → P (view.numbers d bytes) bytes
  pub address : (b : Base) → length bytes ≡ 2 → m.base_at (entry_of bytes) ≡ Some b → P (view.addr (target_by (entry_of bytes) b)) bytes
  pub nowhere : length bytes ≡ 2 → entry_of bytes ≡ 65535 → P (view.rts None) bytes
  pub return : (b : Base) → length bytes ≡ 2 → (entry_of bytes ≡ 65535 → ⊥) → m.base_at (entry_of bytes + 1) ≡ Some b → P (view.rts (Some (target_by (entry_of bytes + 1) b))) bytes

pub of_item : (m : AddressNames) (t : Table) (a : ℕ) (bytes : List ℕ) (P : StatementView → List ℕ → Type 0) → OfCode m t a bytes P → P (statement_in m t a bytes) (item_in t bytes)
unfolding statement_in
of_item m t a bytes P h = grind (arith, len-positive, len-small, begins_with)

module _ (m : AddressNames) (t : Table) (a : ℕ) (bytes : List ℕ) (P : StatementView → List ℕ → Type 0) (code : OfCode m t a bytes P) (table : OfTable m bytes P) where
  -- entries, or the leftover byte
  either : (unit : ℕ) (entries : StatementView) → unit ≤ 8 → (unit ≤ length bytes → P entries bytes) → P (entries_or_byte unit entries bytes) bytes
  either unit entries small many = grind (arith, cond_both, ltb-true, ltb-false)

  word : length bytes ≡ 2 → P (view.numbers Word bytes) bytes
  word two = table.numbers Word (omega (arith, two), (omega (arith, two), omega (arith, two)))

  address : length bytes ≡ 2 → P (address_entry m bytes) bytes
  unfolding address_entry
  address two = grind (arith, word)

  return : length bytes ≡ 2 → P (return_entry m bytes) bytes
  unfolding return_entry
  return two = grind (arith, cond_both, eqb-true, eqb-false, word)

  line : (unit per_line : ℕ) (e : Entry) → IsEntry unit per_line e → IsLineOf t unit per_line e bytes → P (statement_by m t unit e a bytes) bytes
  line unit per_line Instruction is of =
      let whole : item_in t bytes ≡ bytes = ap (λ (n : ℕ). take n bytes) of ∙ take_all (length bytes) bytes (omega arith) in
      subst (P (statement_in m t a bytes)) whole (of_item m t a bytes P code)
  line unit per_line (Number order) is of =
      either unit _ (number_small unit order is.0)
      (λ more. cond_both (unit == 1) (view.bytes bytes) (view.numbers (directive_of unit order) bytes) (λ s. P s bytes)
      (λ _. table.plain (few_entries unit per_line 8 bytes (omega arith) is.1 of))
      (λ other. table.numbers (directive_of unit order) (are_table unit per_line (directive_of unit order) bytes (directive_is unit order is.0 other) is.1 of more)))
  line unit per_line Address is of = either unit _ (omega (arith, is.0)) (λ more. address (address_bytes unit per_line bytes is of more))
  line unit per_line Return is of = either unit _ (omega (arith, is.0)) (λ more. return (address_bytes unit per_line bytes is of more))
  line unit per_line Character is of = table.text (few_entries unit per_line 16 bytes (omega arith) is.1 of)
  line unit per_line Skipped is of = absurd of

  pub of_group : (r : RangeType) → IsGroupOf t r bytes → P (statement_for m t r a bytes) bytes
  unfolding statement_for
  of_group r of = line (unit_of r) (limit_of r) (layout_of r).entry (layout_entry r) of
