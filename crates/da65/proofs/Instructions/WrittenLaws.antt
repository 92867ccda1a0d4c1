-- The operands of an instruction: what is known of each, and of `a:` before them.
use Rattle.std.proofs.Common.{ℕ, ◌+◌, Bool, ◌<◌, ◌≤◌, List, ◌∷◌, length, arith}
use Rattle.std.specs.Prelude.{IfSome}
use Rattle.std.proofs.lemmas.Bool.{and_parts}
use Rattle.std.proofs.lemmas.List.Elements.{All-head, All-tail}
use Rattle.isa65.specs.Words.{Table, row_len, size_of, table_of}
use Rattle.da65.specs.Words.{Cpu, Mnemonic, Mode, AddressNames, OperandKind, Row, is_forced, operand_expr, row_operands}
use Rattle.isa65.specs.declared.row.Row.TheVariants as row
use Rattle.stmt65.specs.Words.{ExprView, MayBeForced, OperandsView}
use Rattle.stmt65.specs.Views as view
use Rattle.map65.specs.Words.{AreBytes}

-- ---- bytes

pub first_byte : (b : ℕ) (bytes : List ℕ) → AreBytes (b ∷ bytes) → b < 256
first_byte b bytes h = All-head (λ b. b < 256) b bytes h

pub other_bytes : (b : ℕ) (bytes : List ℕ) → AreBytes (b ∷ bytes) → AreBytes bytes
other_bytes b bytes h = All-tail (λ b. b < 256) b bytes h

-- ---- what is known of each operand

-- something of each operand of a row and of the index where its bytes begin; the operands are as many as the row writes
abbrev pub AreAll : (OperandKind → ℕ → ExprView → Type 0) → Row → OperandsView → Type 0
AreAll P row.Implied view.none = Unit {0}
AreAll P row.Accumulator view.none = Unit {0}
AreAll P (row.One pattern kind) (view.one e) = P kind 1 e
AreAll P (row.Two first second) (view.two e f) = P first 1 e × P second (1 + size_of first) f
AreAll P _ _ = ⊥

pub of_each : (P : OperandKind → ℕ → ExprView → Type 0) (n : AddressNames) (next : ℕ) (bytes : List ℕ)
    → ((k : OperandKind) (at : ℕ) → at + size_of k ≤ length bytes → IfSome (operand_expr n k next at bytes) (P k at))
    → (r : Row) → row_len r ≤ length bytes → IfSome (row_operands n r next bytes) (AreAll P r)
of_each P n next bytes each row.Implied long = tt
of_each P n next bytes each row.Accumulator long = tt
of_each P n next bytes each (row.One p k) long = grind arith
of_each P n next bytes each (row.Two k l) long = grind arith

-- ---- `a:` where it is needed

-- the mnemonic has the zero-page mode that is written alike, and an assembler would take it for this operand
abbrev pub needs : Cpu → Mnemonic → Mode → List ℕ → Bool
needs cpu m mode bytes = is_forced (table_of cpu) (record { mnemonic = m; mode = mode }) bytes

-- `a:` stands only in a mode with a zero-page mode that is written alike
pub may_be_forced : (t : Table) (m : Mnemonic) (mode : Mode) (bytes : List ℕ) → MayBeForced mode (is_forced t (record { mnemonic = m; mode = mode }) bytes)
may_be_forced t m mode bytes h = grind (arith, and_parts)
