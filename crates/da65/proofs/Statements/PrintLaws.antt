-- Each line of a listing can be printed, and reads as its statement with its label.
use Rattle.std.proofs.Common.{◌≡◌, ℕ, true, ◌+◌, ◌<◌, ◌≤◌, List, ◌∷◌, length, take, Option, Some, None, refl, arith, []}
use Rattle.std.specs.Prelude.{IfSome, nat_lt, slice_index}
use Rattle.std.specs.List.{list_all}
use Rattle.std.specs.Option.{option_map}
use Rattle.std.proofs.lemmas.Bool.{and_from, cond_both, lt-ltb}
use Rattle.std.proofs.lemmas.List.{length-take-le}
use Rattle.std.proofs.lemmas.List.Elements.{All-head, All-tail, All-take}
use Rattle.isa65.specs.Words.{Table, len_of, row_of, size_of}
use Rattle.da65.specs.Words.{IsGroupOf, ListingLine, Mode, AddressNames, OperandKind, RangeType, Row, Style, address_expr, begins, constant_base, expr_from, group_bytes, line_text, names_of, operand_expr, operands_of, statement_at, statement_for, zero_page_expr}
use Rattle.da65.specs.Listing.{remarks_of}
use Rattle.isa65.specs.declared.row.OperandKind.TheVariants as kind
use Rattle.isa65.specs.declared.row.Row.TheVariants as row
use Rattle.info65.specs.Words.{AreNames}
use Rattle.stmt65.specs.Views as view
use Rattle.stmt65.specs.Words.{AreOperands, AreWordWide, ExprView, HasLabelName, HasName, HasNames, HasNamesIn, IsInWidth, IsOperand, IsPrintable, IsWordWide, MayBeLabelled, OperandsView, PrintsAs, StatementView, source_line, with_label}
use Rattle.stmt65.proofs.Public.{prints_as}
use Rattle.map65.specs.Words.{AreBytes, Base, IsPlaced, MapView, entry_of, opcodes, role_of, target_of}
use Rattle.da65.proofs.Statements.EachStatement.{of_group}
use Rattle.da65.proofs.Statements.FragmentLaws.{target_is}
use Rattle.da65.proofs.Groups.ShapeLemmas.{groups_are_groups}
use Rattle.da65.proofs.Names.NameTexts.{IsNameText, base-text}
use Rattle.da65.proofs.Names.TargetBounds.{byte-small, entry-small}
use Rattle.da65.proofs.Statements.StandsLaws.{at_some, begins_with}
use Rattle.da65.proofs.Instructions.WrittenLaws.{AreAll, may_be_forced, of_each}

-- what `put_line` takes, with the widths that its types keep
pub record StatementPrints (s : StatementView) : Type 0 where
  pub printable : IsPrintable s
  pub width : IsInWidth s
  pub names : HasNames s

-- the same of a line, with the label before its statement
pub record CanPrint (t : Style) (l : ListingLine) : Type 0 where
  pub statement : StatementPrints l.statement
  pub room : MayBeLabelled t.columns l.label l.statement
  pub label : HasLabelName l.label

pub prints : (t : Style) (l : ListingLine) → CanPrint t l → PrintsAs (line_text t l) (with_label l.label (source_line l.statement))
unfolding line_text
prints t l h = prints_as t.columns l.statement (remarks_of t l) h.statement.printable h.statement.width h.statement.names h.room h.label

-- ---- bytes

bytes_pass : (bytes : List ℕ) → AreBytes bytes → list_all (λ b. nat_lt b 256) bytes ≡ true
bytes_pass [] h = refl
bytes_pass (b ∷ bytes) h = and_from _ _ (lt-ltb b 256 (All-head (λ b. b < 256) b bytes h)) (bytes_pass bytes (All-tail (λ b. b < 256) b bytes h))

-- ---- expressions

-- the names have texts that read as names
record HaveTexts (m : AddressNames) : Type 0 where
  texts : (a : ℕ) (b : Base) → m.base_at a ≡ Some b → IsNameText b.text

-- what an operand of a kind keeps, and the operands of a row
record OperandPrints (k : OperandKind) (e : ExprView) : Type 0 where
  form : IsOperand k e
  width : IsWordWide e
  name : HasName e

record Keep (r : Row) (os : OperandsView) : Type 0 where
  form : AreOperands r os
  width : AreWordWide os
  names : HasNamesIn os

short_prints_expr : (m : AddressNames) (a : ℕ) → HaveTexts m → a < 256 → OperandPrints kind.ZeroPage (zero_page_expr m a)
unfolding zero_page_expr
short_prints_expr m a h low = go (m.base_at a) refl
  where
    number : OperandPrints kind.ZeroPage (view.number a)
    number = record { form = low; width = omega (arith, low); name = tt }

    go : (o : Option Base) → m.base_at a ≡ o → OperandPrints kind.ZeroPage (expr_from a (constant_base m o))
    go None e = number
    go (Some b) e =
        let text : IsNameText b.text = h.texts a b e in
        cond_both (m.has_constant b.address) (Some b) None (λ o. OperandPrints kind.ZeroPage (expr_from a o)) (λ _. record { form = text.long; width = omega (arith, low); name = text.name }) (λ _. number)

long_prints_expr : (m : AddressNames) (a : ℕ) → HaveTexts m → a < 65536 → OperandPrints kind.Word (address_expr m a)
unfolding address_expr
long_prints_expr m a h low = go (m.base_at a) refl
  where
    go : (o : Option Base) → m.base_at a ≡ o → OperandPrints kind.Word (expr_from a o)
    go None e = record { form = tt; width = low; name = tt }
    go (Some b) e = let text : IsNameText b.text = h.texts a b e in record { form = text.long; width = omega (arith, low); name = text.name }

-- ---- operands

operand_prints : (m : AddressNames) → HaveTexts m → (next : ℕ) (bytes : List ℕ) → AreBytes bytes → next ≤ 65536 → (k : OperandKind) (at : ℕ) → at + size_of k ≤ length bytes
    → IfSome (operand_expr m k next at bytes) (OperandPrints k)
operand_prints m h next bytes are room kind.Byte at long = let small = byte-small bytes are at in record { form = small; width = omega (arith, small); name = tt }
operand_prints m h next bytes are room kind.ZeroPage at long = short_prints_expr m (slice_index bytes at) h (byte-small bytes are at)
operand_prints m h next bytes are room kind.Word at long = grind (arith, long_prints_expr)
operand_prints m h next bytes are room kind.Distance at long = go (target_of next (slice_index bytes at)) refl
  where
    go : (o : Option ℕ) → target_of next (slice_index bytes at) ≡ o → IfSome (option_map (address_expr m) o) (OperandPrints kind.Distance)
    go None e = tt
    go (Some t) e =
        let expr = long_prints_expr m t h (target_is next (slice_index bytes at) t room (byte-small bytes are at) e).room in
        record { form = expr.form; width = expr.width; name = expr.name }

kept : (r : Row) (os : OperandsView) → AreAll (λ k at e. OperandPrints k e) r os → Keep r os
kept row.Implied view.none h = record { form = tt; width = tt; names = tt }
kept row.Accumulator view.none h = record { form = tt; width = tt; names = tt }
kept (row.One p k) (view.one e) h = record { form = h.form; width = h.width; names = h.name }
kept (row.Two k l) (view.two e f) h = record { form = (h.0.form, h.1.form); width = (h.0.width, h.1.width); names = (h.0.name, h.1.name) }
kept _ _ h = absurd h

operands_print : (m : AddressNames) → HaveTexts m → (mode : Mode) (a : ℕ) (bytes : List ℕ) (os : OperandsView) → AreBytes bytes → len_of mode ≤ length bytes → a + len_of mode ≤ 65536
    → operands_of m mode a bytes ≡ Some os → Keep (row_of mode) os
unfolding operands_of
operands_print m h mode a bytes os are long room e =
    kept (row_of mode) os (at_some (AreAll (λ k at e. OperandPrints k e) (row_of mode)) (operands_of m mode a bytes) os e
    (of_each (λ k at e. OperandPrints k e) m (a + len_of mode) bytes (operand_prints m h (a + len_of mode) bytes are room) (row_of mode) long))

-- ---- groups

data_prints : (bytes : List ℕ) → AreBytes bytes → 1 ≤ length bytes → length bytes ≤ 8 → StatementPrints (view.bytes bytes)
data_prints bytes are some high = record { printable = (some, high); width = bytes_pass bytes are; names = tt }

group_prints : (m : AddressNames) → HaveTexts m → (t : Table) (r : RangeType) (a : ℕ) (bytes : List ℕ) → AreBytes bytes → 0 < length bytes → a + length bytes ≤ 65536 → IsGroupOf t r bytes → StatementPrints (statement_for m t r a bytes)
group_prints m h t r a bytes are some room of =
    of_group m t a bytes (λ s bs. StatementPrints s)
    (record {
      front = λ n low high long.
          let count : length (take n bytes) ≡ n = length-take-le n bytes (long some) in
          data_prints (take n bytes) (All-take (λ b. b < 256) n bytes are) (omega (arith, count, low)) (omega (arith, count, high));
      instruction = λ op os e f.
          let long : len_of op.mode ≤ length bytes = (begins_with t bytes op e).long in
          let keep = operands_print m h op.mode a bytes os are long (omega (arith, long, room)) f in
          record { printable = (keep.form, may_be_forced t op.mnemonic op.mode bytes); width = keep.width; names = keep.names };
    })
    (record {
      plain = λ high. data_prints bytes are (omega (arith, some)) high;
      text = λ high. record { printable = (omega (arith, some), high); width = bytes_pass bytes are; names = tt };
      numbers = λ d is. record { printable = is; width = bytes_pass bytes are; names = tt };
      address = λ b two e. let text : IsNameText b.text = h.texts (entry_of bytes) b e in record { printable = text.long; width = omega (arith, entry-small bytes are); names = text.name };
      nowhere = λ two e. record { printable = tt; width = tt; names = tt };
      return = λ b two other e.
          let text : IsNameText b.text = h.texts (entry_of bytes + 1) b e in
          let low : entry_of bytes + 1 < 65536 = omega (arith, entry-small bytes are, other) in
          record { printable = text.long; width = omega (arith, low); names = text.name };
    })
    r of

-- the statement of each group of a map
pub statement_prints : (m : MapView) (a : ℕ) → AreNames m.info.names → IsPlaced m.image → AreBytes (group_bytes m a) → begins m a ≡ true → StatementPrints (statement_at m a)
statement_prints m a names placed are is =
    let group = groups_are_groups m a is in
    group_prints (names_of m) (record { texts = λ a b e. base-text m a b names e }) (opcodes m) (role_of m.info a) a (group_bytes m a) are group.some (omega (arith, group.long, group.room, placed.room)) group.of
