-- What an item of code is written as, and the laws of reassembly.
use Rattle.std.proofs.Common.{◌≡◌, ◌∙◌, ℕ, false, List, length, Option, Some, None, ap, sym, arith}
use Rattle.std.specs.Prelude.{is_some}
use Rattle.std.proofs.lemmas.List.{take_all}
use Rattle.isa65.specs.Words.{Table, len_of}
use Rattle.da65.specs.Words.{AddressNames, Op, TargetIsInRange, UnwrittenIsBytes, bytes_statement, instruction_in, is_forced, operands_of, statement_in, statement_of, written}
use Rattle.stmt65.specs.Views as view
use Rattle.stmt65.specs.Words.{OperandsView}
use Rattle.da65.proofs.Statements.FragmentLaws.{target_is}
use Rattle.map65.specs.Words.{code_size}

-- all bytes of an item, if there are that many
whole-item : (count : ℕ) (bytes : List ℕ) → count ≡ length bytes → bytes_statement count bytes ≡ view.bytes bytes
whole-item count bytes e = ap view.bytes (take_all count bytes (omega (arith, e)))

pub undefined : (n : AddressNames) (t : Table) (a : ℕ) (bytes : List ℕ) → instruction_in t bytes ≡ None → code_size (instruction_in t bytes) ≡ length bytes → statement_in n t a bytes ≡ view.bytes bytes
unfolding statement_in
undefined n t a bytes none whole = ap (statement_of n t a bytes) none ∙ whole-item 1 bytes (sym (ap code_size none) ∙ whole)

unwritten : (t : Table) (op : Op) (bytes : List ℕ) (o : Option OperandsView) → false ≡ is_some o → len_of op.mode ≡ length bytes → written t op bytes o ≡ view.bytes bytes
unwritten t op bytes None h e = whole-item (len_of op.mode) bytes e
unwritten t op bytes (Some os) h e = absurd cc

pub unreached : (n : AddressNames) (t : Table) (a : ℕ) (bytes : List ℕ) (op : Op) → instruction_in t bytes ≡ Some op → false ≡ is_some (operands_of n op.mode a bytes) → code_size (instruction_in t bytes) ≡ length bytes → statement_in n t a bytes ≡ view.bytes bytes
unfolding statement_in
unreached n t a bytes op some out whole = ap (statement_of n t a bytes) some ∙ unwritten t op bytes (operands_of n op.mode a bytes) out (sym (ap code_size some) ∙ whole)

pub as-instruction : (n : AddressNames) (t : Table) (a : ℕ) (bytes : List ℕ) (op : Op) (os : OperandsView) → instruction_in t bytes ≡ Some op → Some os ≡ operands_of n op.mode a bytes → view.instr op (is_forced t op bytes) os ≡ statement_in n t a bytes
unfolding statement_in
as-instruction n t a bytes op os some is = ap (written t op bytes) is ∙ sym (ap (statement_of n t a bytes) some)

-- ---- the laws

pub unwritten_is_bytes : UnwrittenIsBytes
unfolding statement_in
unwritten_is_bytes m t a bytes are none = grind arith

pub target_is_in_range : TargetIsInRange
target_is_in_range next b target room h e = let is = target_is next b target room h e in (is.room, (is.near, is.back))
