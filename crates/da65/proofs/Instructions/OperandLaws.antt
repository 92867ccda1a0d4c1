-- The bytes of an instruction's operands.
use Rattle.std.proofs.Math.Seq.{take-add}
use Rattle.std.proofs.Common.{◌≡◌, ℕ, ◌+◌, ◌*◌, ◌≤◌, List, ◌∷◌, ◌++◌, length, take, drop, Option, Some, None, refl, sym, ap, subst, ◌∙◌, arith, []}
use Rattle.std.specs.Prelude.{IfSome, slice_index}
use Rattle.std.specs.Option.{option_map}
use Rattle.std.proofs.lemmas.List.{append-nil, drop-drop, drop-take, drop_more}
use Rattle.isa65.specs.Words.{len_of, row_len, row_of, size_of}
use Rattle.da65.specs.Words.{Addr, AreSound, KnowsAll, Mode, AddressNames, OperandKind, Row, address_expr, fragments_in, operand_expr, operand_fragment, operands_of, row_fragments, row_operands, zero_page_expr}
use Rattle.isa65.specs.declared.row.OperandKind.TheVariants as kind
use Rattle.isa65.specs.declared.row.Row.TheVariants as row
use Rattle.stmt65.specs.Words.{Definition, ExprView, Fragment, OperandsView, source_value}
use Rattle.stmt65.specs.Views as view
use Rattle.map65.specs.Words.{AreBytes, ImageView, target_of}
use Rattle.da65.proofs.Statements.FragmentLaws.{FragmentsGive, no_fragments, single_gives, target_is}
use Rattle.da65.proofs.Instructions.WorthLaws.{distance_worth_gives, word_worth_gives, zero_page_worth_gives}
use Rattle.da65.proofs.Instructions.ValueLaws.{address_worth, zero_page_worth}
use Rattle.da65.proofs.Statements.StandsLaws.{at_some}
use Rattle.da65.proofs.Names.TargetBounds.{byte-small}
use Rattle.da65.proofs.Instructions.WrittenLaws.{AreAll, of_each}

-- ---- the bytes after an opcode

past_two : (n m : ℕ) (bytes : List ℕ) → drop 1 (take (1 + n + m) bytes) ≡ take n (drop 1 bytes) ++ take m (drop (1 + n) bytes)
past_two n m bytes =
    let sum : 1 + n + m ≡ 1 + (n + m) = omega arith in
    ap (λ (k : ℕ). drop 1 (take k bytes)) sum ∙ drop-take 1 (n + m) bytes ∙ take-add n m (drop 1 bytes)
    ∙ ap (λ (bs : List ℕ). take n (drop 1 bytes) ++ take m bs) (drop-drop n 1 bytes)

module _ (image : ImageView) (n : AddressNames) (names : AreSound image n) (next : ℕ) (room : next ≤ 65536) (bytes : List ℕ) (are : AreBytes bytes) where
  abbrev Full : List Definition → Type 0
  Full all = KnowsAll n all

  -- an operand gives the bytes from an index on, before whatever other fragments give
  abbrev Gives : OperandKind → ℕ → ExprView → Type 0
  Gives k at e = (fragments : List Fragment) (past : List ℕ) → FragmentsGive Full next fragments past → FragmentsGive Full next (operand_fragment k e ∷ fragments) (take (size_of k) (drop at bytes) ++ past)

  operand_gives : (k : OperandKind) (at : ℕ) → at + size_of k ≤ length bytes → IfSome (operand_expr n k next at bytes) (Gives k at)
  operand_gives kind.Byte at long = λ fragments past rest.
      rw (drop_more bytes at 0 (omega (arith, long))) (single_gives Full next (slice_index bytes at) fragments past (byte-small bytes are at) rest)
  operand_gives kind.ZeroPage at long = λ fragments past rest.
      let b = slice_index bytes at in
      rw (drop_more bytes at 0 (omega (arith, long)))
      (zero_page_worth_gives Full next (source_value (zero_page_expr n b)) b fragments past (λ all k. zero_page_worth image n all b names k) (byte-small bytes are at) rest)
  operand_gives kind.Word at long = λ fragments past rest.
      let low = slice_index bytes at in
      let high = slice_index bytes (at + 1) in
      rw (drop_more bytes at 0 (omega (arith, long)), drop_more bytes (at + 1) 0 (omega (arith, long)))
      (word_worth_gives Full next Addr (source_value (address_expr n (low + 256 * high))) low high fragments past refl refl (λ all k. address_worth image n all (low + 256 * high) names k)
      (byte-small bytes are at) (byte-small bytes are (at + 1)) rest)
  operand_gives kind.Distance at long = go (target_of next (slice_index bytes at)) refl
    where
      go : (o : Option ℕ) → target_of next (slice_index bytes at) ≡ o → IfSome (option_map (address_expr n) o) (Gives kind.Distance at)
      go None e = tt
      go (Some t) e = λ fragments past rest.
          rw (drop_more bytes at 0 (omega (arith, long)))
          (distance_worth_gives Full next (source_value (address_expr n t)) (slice_index bytes at) t fragments past (λ all k. address_worth image n all t names k)
          (target_is next (slice_index bytes at) t room (byte-small bytes are at) e) rest)

  row_gives : (r : Row) (os : OperandsView) → AreAll Gives r os → FragmentsGive Full next (row_fragments r os) (drop 1 (take (row_len r) bytes))
  row_gives row.Implied view.none h = subst (FragmentsGive Full next []) (sym (drop-take 1 0 bytes)) (no_fragments Full next)
  row_gives row.Accumulator view.none h = subst (FragmentsGive Full next []) (sym (drop-take 1 0 bytes)) (no_fragments Full next)
  row_gives (row.One p k) (view.one e) h =
      let past = take (size_of k) (drop 1 bytes) in
      subst (FragmentsGive Full next (operand_fragment k e ∷ [])) (append-nil past ∙ sym (drop-take 1 (size_of k) bytes)) (h [] [] (no_fragments Full next))
  row_gives (row.Two k l) (view.two e f) h =
      let past = take (size_of l) (drop (1 + size_of k) bytes) in
      let all = ap (λ (bs : List ℕ). take (size_of k) (drop 1 bytes) ++ bs) (append-nil past) ∙ sym (past_two (size_of k) (size_of l) bytes) in
      subst (FragmentsGive Full next (operand_fragment k e ∷ operand_fragment l f ∷ [])) all (h.0 (operand_fragment l f ∷ []) (past ++ []) (h.1 [] [] (no_fragments Full next)))
  row_gives _ _ h = absurd h

  of_row : (r : Row) (os : OperandsView) → row_len r ≤ length bytes → row_operands n r next bytes ≡ Some os → FragmentsGive Full next (row_fragments r os) (drop 1 (take (row_len r) bytes))
  of_row r os long e = row_gives r os (at_some (AreAll Gives r) (row_operands n r next bytes) os e (of_each Gives n next bytes operand_gives r long))

pub bytes_of_operands : (image : ImageView) (n : AddressNames) → AreSound image n → (mode : Mode) (a : ℕ) (bytes : List ℕ) (os : OperandsView) → AreBytes bytes → len_of mode ≤ length bytes → a + len_of mode ≤ 65536
    → operands_of n mode a bytes ≡ Some os → FragmentsGive (KnowsAll n) (a + len_of mode) (fragments_in mode os) (drop 1 (take (len_of mode) bytes))
unfolding operands_of
bytes_of_operands image n names mode a bytes os are long room e = of_row image n names (a + len_of mode) room bytes are (row_of mode) os long e
