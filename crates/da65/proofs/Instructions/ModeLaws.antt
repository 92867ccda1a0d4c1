-- Each instruction is coded in the mode that it was decoded from.
use Rattle.std.proofs.Common.{◌≡◌, ℕ, ◌+◌, ◌≤◌, Bool, true, false, inl, inr, List, ◌∷◌, length, Option, Some, None, refl, sym, ap, subst, ◌∙◌}
use Rattle.std.specs.Prelude.{IfSome, IsSome, is_some, nat_lt, slice_index}
use Rattle.std.specs.Option.{option_map}
use Rattle.std.proofs.lemmas.Bool.{false_from_ne_true, lt-ltb}
use Rattle.isa65.specs.Words.{IsZeroPageOf, encoded, len_of, pattern_text, row_of, row_text, size_of, table_of, table_of-sound, written_alike, zero_page_of, zero_page_row}
use Rattle.da65.specs.Words.{Absolute, AddressSize, AreSound, Automatic, Cpu, KnowsConstants, Mnemonic, Mode, AddressNames, OperandKind, Pattern, Row, Zprel, address_expr, fragments_in, operand_expr, operand_fragment, operands_of, row_fragments, row_operands}
use Rattle.isa65.specs.declared.row.OperandKind.TheVariants as kind
use Rattle.isa65.specs.declared.row.Pattern.TheVariants as pattern
use Rattle.isa65.specs.declared.row.Row.TheVariants as row
use Rattle.stmt65.specs.Words.{Definition, ExprView, Fixed, Form, Fragment, Instr, IsModeOf, Layout, One, OperandsView, Single, State, TakesMode, Value, address_size, byte_fragment, coding, form_text, has_prefix, has_zero_page_size, is_short, kind_fragment, row_form, sized, source_form, source_value}
use Rattle.stmt65.specs.Views as view
use Rattle.stmt65.specs.ModeLaws as mode
use Rattle.stmt65.proofs.Public.{needs_mode, takes_modes}
use Rattle.map65.specs.Words.{AreBytes, ImageView, target_of, operand_word}
use Rattle.da65.proofs.Statements.StandsLaws.{at_some}
use Rattle.da65.proofs.Names.TargetBounds.{byte-small}
use Rattle.da65.proofs.Instructions.ValueLaws.{address_large, zero_page_small}
use Rattle.da65.proofs.Instructions.WrittenLaws.{AreAll, may_be_forced, needs, of_each}

-- ---- the form of printed operands

pattern_is : (size : AddressSize) (p : Pattern) (v : Value) → pattern_text p ≡ form_text (One (sized size p) v)
pattern_is Absolute pattern.Direct v = refl
pattern_is _ _ v = refl

pub row_prefix : (r : Row) (a : Bool) (os : OperandsView) → has_prefix (row_form r (address_size a) os) ≡ true → a ≡ true
row_prefix r true os h = refl
row_prefix (row.One p k) false (view.one e) h = absurd cc
row_prefix row.Accumulator false view.none h = absurd cc
row_prefix (row.Two k l) false (view.two e f) h = absurd cc
row_prefix _ false _ h = absurd cc

-- it is written as its mode is
row_is : (P : OperandKind → ℕ → ExprView → Type 0) (r : Row) (size : AddressSize) (os : OperandsView) → AreAll P r os → row_text r ≡ form_text (row_form r size os)
row_is P row.Implied size view.none h = refl
row_is P row.Accumulator size view.none h = refl
row_is P (row.One p k) size (view.one e) h = pattern_is size p (source_value e)
row_is P (row.Two k l) size (view.two e f) h = refl
row_is P _ size _ h = absurd h

-- ---- zero-page and absolute modes

-- what the row of a zero-page mode is to that of the absolute one
pub record IsPair (r : Row) (x : Mode) : Type 0 where
  pub direct : Pattern
  pub long : r ≡ row.One direct kind.Word
  pub short : row_of x ≡ row.One direct kind.ZeroPage
  pub alone : zero_page_of x ≡ None
  pub prefix : (v : Value) → has_prefix (One (sized Absolute direct) v) ≡ true

pair_as : (r : Row) (y x : Mode) → Some y ≡ Some x → IsPair r y → IsPair r x
pair_as r y x e h = let same : y ≡ x = cc in subst (IsPair r) same h

pub pair : (r : Row) (x : Mode) → zero_page_row r ≡ Some x → IsPair r x
pair (row.One pattern.Direct kind.Word) x e = pair_as _ _ x e (record { direct = pattern.Direct; long = refl; short = refl; alone = refl; prefix = λ v. refl })
pair (row.One pattern.DirectX kind.Word) x e = pair_as _ _ x e (record { direct = pattern.DirectX; long = refl; short = refl; alone = refl; prefix = λ v. refl })
pair (row.One pattern.DirectY kind.Word) x e = pair_as _ _ x e (record { direct = pattern.DirectY; long = refl; short = refl; alone = refl; prefix = λ v. refl })
pair (row.One _ kind.Word) x e = absurd cc
pair _ x e = absurd cc

-- ---- how an instruction is coded

module _ (image : ImageView) (n : AddressNames) (p : ℕ → Bool) (names : AreSound image n) (cpu : Cpu) (above : List Definition) (known : KnowsConstants n p above) where
  -- an operand in the zero page has that size
  abbrev IsSmall : OperandKind → ℕ → ExprView → Type 0
  IsSmall kind.ZeroPage at e = has_zero_page_size above (source_value e) ≡ true
  IsSmall _ at e = Unit {0}

  operand_small : (next : ℕ) (bytes : List ℕ) → AreBytes bytes → (k : OperandKind) (at : ℕ) → at + size_of k ≤ length bytes → IfSome (operand_expr n k next at bytes) (IsSmall k at)
  operand_small next bytes are kind.Byte at long = tt
  operand_small next bytes are kind.ZeroPage at long = zero_page_small image n p above (slice_index bytes at) names known (lt-ltb (slice_index bytes at) 256 (byte-small bytes are at))
  operand_small next bytes are kind.Word at long = tt
  operand_small next bytes are kind.Distance at long = go (target_of next (slice_index bytes at))
    where
      go : (o : Option ℕ) → IfSome (option_map (address_expr n) o) (IsSmall kind.Distance at)
      go None = tt
      go (Some t) = tt

  -- no operand of a listing is a half
  whole_byte : (size : AddressSize) (q : Pattern) (w : Value) → byte_fragment (sized size q) w ≡ Single w
  whole_byte Absolute pattern.Direct w = refl
  whole_byte _ _ w = refl

  operand_codes : (q : Pattern) (size : AddressSize) (k : OperandKind) (at : ℕ) (e : ExprView) → IsSmall k at e
      → kind_fragment (has_zero_page_size above (source_value e)) (sized size q) k (source_value e) ≡ operand_fragment k e
  operand_codes q size kind.Byte at e small = whole_byte size q (source_value e)
  operand_codes q size kind.ZeroPage at e small = rw small refl
  operand_codes q size kind.Word at e small = refl
  operand_codes q size kind.Distance at e small = refl

  -- the second of two operands is a distance
  abbrev IsFar : Row → Type 0
  IsFar (row.Two k kind.Distance) = Unit {0}
  IsFar (row.Two k _) = ⊥
  IsFar _ = Unit {0}

  each_far : (x : Mode) → IsFar (row_of x)
  each_far Zprel = tt
  each_far _ = tt

  row_codes : (r : Row) → IsFar r → (size : AddressSize) (os : OperandsView) → AreAll IsSmall r os
      → mode.row_fragments (is_short above (row_form r size os)) (row_form r size os) r ≡ row_fragments r os
  row_codes row.Implied far size view.none h = refl
  row_codes row.Accumulator far size view.none h = refl
  row_codes (row.One q k) far size (view.one e) h = rw (operand_codes q size k 1 e h) refl
  row_codes (row.Two k kind.Distance) far size (view.two e f) h = rw (operand_codes pattern.Direct Automatic k 1 e h.0) refl
  row_codes (row.Two k kind.Byte) far size _ h = absurd far
  row_codes (row.Two k kind.ZeroPage) far size _ h = absurd far
  row_codes (row.Two k kind.Word) far size _ h = absurd far
  row_codes _ far size _ h = absurd h

  -- an operand in the zero page makes a form short
  small_short : (q : Pattern) (r : Row) → r ≡ row.One q kind.ZeroPage → (size : AddressSize) (os : OperandsView) → AreAll IsSmall r os → is_short above (row_form r size os) ≡ true
  small_short q (row.One s kind.ZeroPage) e size (view.one x) h = h
  small_short q (row.One s kind.ZeroPage) e size _ h = absurd h
  small_short q _ e size _ h = absurd cc

  -- a word has the size of its expression
  pub word_size : (q : Pattern) (r : Row) → r ≡ row.One q kind.Word → (size : AddressSize) (next : ℕ) (bytes : List ℕ) (os : OperandsView) → row_operands n r next bytes ≡ Some os
      → is_short above (row_form r size os) ≡ has_zero_page_size above (source_value (address_expr n (operand_word bytes)))
  word_size q (row.One s kind.Word) e size next bytes (view.one x) has =
      let is : Some (view.one (address_expr n (operand_word bytes))) ≡ Some (view.one x) = has in
      let same : address_expr n (operand_word bytes) ≡ x = cc in
      rw same refl
  word_size q (row.One s kind.Word) e size next bytes view.none has = absurd cc
  word_size q (row.One s kind.Word) e size next bytes (view.two x y) has = absurd cc
  word_size q _ e size next bytes os has = absurd cc

  forced_prefix : (q : Pattern) (r : Row) → r ≡ row.One q kind.Word → ((v : Value) → has_prefix (One (sized Absolute q) v) ≡ true) → (P : OperandKind → ℕ → ExprView → Type 0) (os : OperandsView) → AreAll P r os
      → has_prefix (row_form r (address_size true) os) ≡ true
  forced_prefix q (row.One s kind.Word) e prefix P (view.one x) h = let same : q ≡ s = cc in rw (← same) (prefix (source_value x))
  forced_prefix q (row.One s kind.Word) e prefix P _ h = absurd h
  forced_prefix q _ e prefix P _ h = absurd cc

  module _ (m : Mnemonic) (b : ℕ) (x : Mode) (is : encoded (table_of cpu) m x ≡ Some b) (a : ℕ) (bytes : List ℕ) (are : AreBytes bytes) (long : len_of x ≤ length bytes) (os : OperandsView)
      (has : row_operands n (row_of x) (a + len_of x) bytes ≡ Some os) where
    all_small : AreAll IsSmall (row_of x) os
    all_small = at_some (AreAll IsSmall (row_of x)) (row_operands n (row_of x) (a + len_of x) bytes) os has (of_each IsSmall n (a + len_of x) bytes (operand_small (a + len_of x) bytes are) (row_of x) long)

    -- its form, with `a:` or without
    abbrev pub form : Bool → Form
    form u = row_form (row_of x) (address_size u) os

    pub of_form : (u : Bool) → (u ≡ true → IsSome (zero_page_of x)) → IsModeOf (form u) x
    of_form u may = (row_is IsSmall (row_of x) (address_size u) os all_small, λ h. may (row_prefix (row_of x) u os h))

    -- `a:` stands exactly where the operand is small, if the mnemonic has the zero-page mode
    small_forced : (z : Mode) (c : ℕ) → zero_page_of x ≡ Some z → encoded (table_of cpu) m z ≡ Some c → needs cpu m x bytes ≡ nat_lt (operand_word bytes) 256
    small_forced z c near code = rw (near, code) refl

    module _ (u : Bool) (forced : needs cpu m x bytes ≡ u) (fragments : List Fragment) (takes : TakesMode cpu above m (form u) fragments) where
      may : u ≡ true → IsSome (zero_page_of x)
      may h = may_be_forced (table_of cpu) m x bytes (forced ∙ h)

      own : takes.mode ≡ x → fragments ≡ Fixed b ∷ fragments_in x os
      own same =
          let has : Some takes.opcode ≡ Some b = sym takes.has ∙ ap (encoded (table_of cpu) m) same ∙ is in
          let code : takes.opcode ≡ b = cc in
          takes.coded ∙ ap (λ (c : ℕ). Fixed c ∷ mode.mode_fragments (is_short above (form u)) (form u) takes.mode) code
          ∙ ap (λ (y : Mode). Fixed b ∷ mode.mode_fragments (is_short above (form u)) (form u) y) same
          ∙ ap (λ (fs : List Fragment). Fixed b ∷ fs) (row_codes (row_of x) (each_far x) (address_size u) os all_small)

      -- not in the zero-page mode that is written alike
      not_short : IsZeroPageOf takes.mode x → ⊥
      not_short short =
          let h = pair (row_of x) takes.mode short in
          let free : u ≡ false = false_from_ne_true u
          (λ e. let prefix : has_prefix (form u) ≡ true = rw e (forced_prefix h.direct (row_of x) h.long h.prefix IsSmall os all_small) in
          let no : false ≡ true = ap (λ (o : Option Mode). is_some o) (sym h.alone) ∙ takes.of_form.1 prefix in cc) in
          let large : nat_lt (operand_word bytes) 256 ≡ false = sym (small_forced takes.mode takes.opcode short takes.has) ∙ forced ∙ free in
          let size = sym (takes.short x short (of_form u may) (ap is_some is))
          ∙ word_size h.direct (row_of x) h.long (address_size u) (a + len_of x) bytes os has ∙ address_large image n p above (operand_word bytes) names known.knows large in
          cc

      -- nor in the absolute one
      not_long : IsZeroPageOf x takes.mode → ⊥
      not_long long =
          let h = pair (row_of takes.mode) x long in
          let size = sym (takes.long x long (of_form u may) (ap is_some is)) ∙ small_short h.direct (row_of x) h.short (address_size u) os all_small in
          cc

      in_mode : fragments ≡ Fixed b ∷ fragments_in x os
      in_mode =
          let alike = written_alike (table_of cpu) (table_of-sound cpu) m takes.mode x (ap is_some takes.has) (ap is_some is)
          (takes.of_form.0 ∙ sym (of_form u may).0) in
          elim alike [ inl same ↦ own same | inr other ↦ elim other [ inl short ↦ absurd (not_short short) | inr long ↦ absurd (not_long long) ] ]

    -- the state of these definitions, at an address
    abbrev pub here : ℕ → Layout → State
    here at layout = record { at = at; cpu = cpu; above = above; layout = layout }

    chosen : (at : ℕ) (layout : Layout) (u : Bool) → needs cpu m x bytes ≡ u → coding (here at layout) (Instr m (form u)) ≡ Some (Fixed b ∷ fragments_in x os)
    chosen at layout u forced = go (coding (here at layout) (Instr m (form u))) refl
      where
        go : (o : Option (List Fragment)) → coding (here at layout) (Instr m (form u)) ≡ o → coding (here at layout) (Instr m (form u)) ≡ Some (Fixed b ∷ fragments_in x os)
        go None e =
            let none = (needs_mode (here at layout) m (form u)).0 e x (of_form u (λ h. may_be_forced (table_of cpu) m x bytes (forced ∙ h))) in
            let no = sym is ∙ none in absurd cc
        go (Some fragments) e = e ∙ ap Some (in_mode u forced fragments (takes_modes (here at layout) m (form u) fragments e))

  pub coded_in_mode : (m : Mnemonic) (b : ℕ) (x : Mode) → encoded (table_of cpu) m x ≡ Some b → (a : ℕ) (bytes : List ℕ) → AreBytes bytes → len_of x ≤ length bytes → (os : OperandsView)
      → operands_of n x a bytes ≡ Some os → (at : ℕ) (layout : Layout)
      → coding (record { at = at; cpu = cpu; above = above; layout = layout }) (Instr m (source_form x (needs cpu m x bytes) os)) ≡ Some (Fixed b ∷ fragments_in x os)
  unfolding operands_of source_form
  coded_in_mode m b x is a bytes are long os has at layout = chosen m b x is a bytes are long os has at layout (needs cpu m x bytes) refl
