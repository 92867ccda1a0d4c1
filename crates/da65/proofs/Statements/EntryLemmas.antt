-- Entries of tables, by the bytes of a line.
use Rattle.std.proofs.Common.{◌≡◌, ◌≢◌, ◌∙◌, inl, inr, ℕ, ◌==◌, ◌*◌, ◌%◌, ◌<◌, ◌≤◌, false, List, length, refl, sym, ap, arith}
use Rattle.std.proofs.lemmas.Bool.{cond-true, eqb-false, lt-ltb}
use Rattle.da65.specs.Words.{AddrTable, Address, AreEntries, ByteOrder, Directive, Instruction, IsGroupOf, AddressNames, RangeType, Return, RtsTable, Skip, Skipped, TextTable, directive_of, statement_for}
use Rattle.isa65.specs.Words.{Table}
use Rattle.info65.specs.Words.{IsNumber, layout_of}
use Rattle.info65.specs.declared.information.range.RangeType.TheVariants.{Code}
use Rattle.stmt65.specs.Words.{IsTable, entry_len}
use Rattle.stmt65.specs.Views as view

-- an entry of a directive has so many bytes, more than one
pub record IsEntryOf (unit : ℕ) (d : Directive) : Type 0 where
  len : entry_len d ≡ unit
  wide : 2 ≤ unit

pub directive_is : (unit : ℕ) (order : ByteOrder) → IsNumber unit order → (unit == 1) ≡ false → IsEntryOf unit (directive_of unit order)
directive_is unit order (inl one) other = absurd (eqb-false unit 1 other one)
directive_is unit order (inr (inl two)) other = grind arith
directive_is unit order (inr (inr four)) other = record { len = rw (four.0, four.1) refl; wide = omega (arith, four.0) }

-- whole entries are a table of their directive
pub are_table : (unit per_line : ℕ) (d : Directive) (bytes : List ℕ) → IsEntryOf unit d → per_line * unit ≤ 8 → AreEntries unit per_line bytes → unit ≤ length bytes → IsTable d bytes
are_table unit per_line d bytes is line (inl one) more = absurd (omega (arith, one, more, is.wide))
are_table unit per_line d bytes is line (inr are) more = (ap (λ (n : ℕ). length bytes % n) is.len ∙ are.0, (omega (arith, is.len, more), omega (arith, are.1, line)))

-- no more bytes than the line has room for
pub few_entries : (unit per_line most : ℕ) (bytes : List ℕ) → 1 ≤ most → per_line * unit ≤ most → AreEntries unit per_line bytes → length bytes ≤ most
few_entries unit per_line most bytes some line (inl one) = omega (arith, one, some)
few_entries unit per_line most bytes some line (inr are) = omega (arith, are.1, line)

pub number_small : (unit : ℕ) (order : ByteOrder) → IsNumber unit order → unit ≤ 8
number_small unit order (inl one) = omega (arith, one)
number_small unit order (inr (inl two)) = omega (arith, two)
number_small unit order (inr (inr four)) = omega (arith, four.0)

-- the bytes of an address
pub address_bytes : (unit per_line : ℕ) (bytes : List ℕ) → (unit ≡ 2) × (per_line * unit ≤ 2) → AreEntries unit per_line bytes → unit ≤ length bytes → length bytes ≡ 2
address_bytes unit per_line bytes is (inl one) more = absurd (omega (arith, one, more, is.0))
address_bytes unit per_line bytes is (inr are) more = omega (arith, are.1, is.0, is.1, more)

-- ---- the same, by the role of the line

pub address_of_role : (t : Table) (r : RangeType) (bytes : List ℕ) → (layout_of r).entry ≡ Address → IsGroupOf t r bytes → (layout_of r).unit ≤ length bytes → length bytes ≡ 2
address_of_role t AddrTable bytes is of more = address_bytes 2 1 bytes (refl, omega arith) of more
address_of_role t _ bytes is of more = absurd cc

pub return_of_role : (t : Table) (r : RangeType) (bytes : List ℕ) → (layout_of r).entry ≡ Return → IsGroupOf t r bytes → (layout_of r).unit ≤ length bytes → length bytes ≡ 2
return_of_role t RtsTable bytes is of more = address_bytes 2 1 bytes (refl, omega arith) of more
return_of_role t _ bytes is of more = absurd cc

-- a line without a whole entry is a leftover byte
pub leftover : (t u : Table) (n : AddressNames) (r : RangeType) (a : ℕ) (bytes : List ℕ) → r ≢ Code → IsGroupOf t r bytes → 0 < length bytes → length bytes < (layout_of r).unit
    → view.bytes bytes ≡ statement_for n u r a bytes
unfolding statement_for
leftover t u n Code a bytes other is some few = absurd (other refl)
leftover t u n Skip a bytes other is some few = absurd is
leftover t u n TextTable a bytes other is some few = absurd (omega (arith, some, few))
leftover t u n _ a bytes other is some few = sym (cond-true _ _ _ (lt-ltb (length bytes) _ few))

-- a line of a table is one whatever the opcodes are
pub group_of_table : (t u : Table) (r : RangeType) (bytes : List ℕ) → r ≢ Code → IsGroupOf t r bytes → IsGroupOf u r bytes
group_of_table t u Code bytes other is = absurd (other refl)
group_of_table t u Skip bytes other is = absurd is
group_of_table t u _ bytes other is = is

pub no_instruction : (r : RangeType) → r ≢ Code → (layout_of r).entry ≡ Instruction → ⊥
no_instruction Code other is = other refl
no_instruction _ other is = absurd cc

pub no_skipped : (t : Table) (r : RangeType) (bytes : List ℕ) → IsGroupOf t r bytes → (layout_of r).entry ≡ Skipped → ⊥
no_skipped t Skip bytes of is = of
no_skipped t _ bytes of is = cc

pub ruleset lines = (address_of_role, leftover, return_of_role, no_instruction, no_skipped)
