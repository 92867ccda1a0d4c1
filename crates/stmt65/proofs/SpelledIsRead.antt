-- What is spelled so is read, in either language; in a repair an instruction without an operand may work on the accumulator.
use Rattle.std.specs.Prelude.{◌++◌, ◌∷◌, ◌≡◌, ◌≤◌, codes}
use Rattle.stmt65.proofs.Lemmas.{List, None, Option, Some, [], ap, append-nil, append_assoc, arith, bytes_eq-Decides, eqb, eqb-true, false, inl, inr, length, length-append, refl, suc, sym, true, zero, ℕ, ◌∙◌}
use Rattle.std.specs.Str.{str_to_ascii_lowercase}
use Rattle.stmt65.specs.Words.{Accumulator, Adc, AddressSize, Assignment, Automatic, Code, Data, Datum, Define, DifferenceValue, Direct, DirectX, DirectY, Directive, Empty, Form, High, Immediate, Indirect, IndirectX, IndirectY, Instr, IsDatum, IsItem, IsList, IsMinus, IsPlus, IsSpelling, IsValue, Item, Language, Listing, Low, Mark, Minus, Mnemonic, NameValue, Nothing, Number, NumberDatum, NumberValue, One, Operation, Part, PlaceAssignment, Repair, Reserve, Segment, SetCpu, SourceLine, Spells, Statement, StringDatum, Two, Value, Values, Word, Zero, constant_of, data_list, data_of, define, directive_named, directive_text, form_items, further_at, immediate_of, inner_at, is_absolute, is_define, is_difference, is_equals, is_mark, is_name, is_nil, is_word_here, joined, less_one, line_at, mark, mark_datum, mnemonic_named, name, named_at, next_address, next_datum, next_half, next_value, number, number_at, number_datum, operand_in, operation_at, operation_items, other_at, prefix_items, quoted_name, reading_of, reserve_of, same, segment_of, set_cpu_of, sized, string, tail_at, text_in, text_of, unwritten, value, value_list, values_of, whole, word, word_datum, ◌>>=◌}
use Rattle.stmt65.specs.declared.source_line.AddressSize.TheVariants.{Absolute}
use Rattle.stmt65.specs.declared.source_line.Minus.TheVariants.{One as MinusOne}
use Rattle.stmt65.specs.declared.source_line.Notation.TheVariants as notation
use Rattle.stmt65.specs.Parts.{number_of}
use Rattle.stmt65.specs.Reading.{form_of, operation_of}
use Rattle.stmt65.specs.declared.directive.Directive.TheVariants as directive
use Rattle.stmt65.proofs.Cases.{by_test, no_letter}

-- ---- items in front

pub nothing_left : (ps : List Part) → Spells [] ps → ps ≡ []
unfolding Spells
nothing_left ps h = h

un_mark : (b : ℕ) (is : List Item) (ps : List Part) → Spells (mark b ∷ is) ps → (rest : List Part) × (ps ≡ Mark b ∷ rest) × Spells is rest
unfolding Spells
un_mark b is ps h = (h.1, rw (h.2, h.3) refl, h.4)

un_word : (text : List ℕ) (is : List Item) (ps : List Part) → Spells (word text ∷ is) ps → (w : List ℕ) × (rest : List Part) × (ps ≡ Word w ∷ rest) × (same w text ≡ true) × Spells is rest
unfolding Spells
un_word text is ps h = (h.3.0, h.1, rw (h.2, h.3.2) refl, h.3.1, h.4)

un_name : (w : List ℕ) (is : List Item) (ps : List Part) → Spells (name w ∷ is) ps → (rest : List Part) × (ps ≡ Word w ∷ rest) × (is_name w ≡ true) × Spells is rest
unfolding Spells
un_name w is ps h = (h.1, rw (h.2, h.3.1) refl, h.3.0, h.4)

un_define : (is : List Item) (ps : List Part) → Spells (define ∷ is) ps → (rest : List Part) × (ps ≡ Define ∷ rest) × Spells is rest
unfolding Spells
un_define is ps h = (h.1, rw (h.2, h.3) refl, h.4)

un_number : (n : ℕ) (ps : List Part) → Spells (number n ∷ []) ps → (text : List ℕ) × (n ≡ number_of text) × (ps ≡ Number text ∷ [])
unfolding Spells
un_number n ps h = (h.3.0, h.3.1, rw (h.2, h.3.2, h.4) refl)

un_last : (i : Item) (ps : List Part) → Spells (i ∷ []) ps → IsItem i ps
unfolding Spells
un_last i ps h = let e : ps ≡ h.0 = h.2 ∙ ap (λ (r : List Part). h.0 ++ r) h.4 ∙ append-nil h.0 in rw e h.3

un_value : (v : Value) (is : List Item) (ps : List Part) → Spells (value v ∷ is) ps → (front : List Part) × (rest : List Part) × (ps ≡ front ++ rest) × IsValue v front × Spells is rest
unfolding Spells
un_value v is ps h = h

-- ---- values

-- what may follow a value
pub record Stops (ps : List Part) : Type 0 where
  pub plus : is_mark 43 ps ≡ false
  pub minus : is_mark 45 ps ≡ false

stops_nil : Stops []
stops_nil = record { plus = refl; minus = refl }

stops_mark : (b : ℕ) (ps : List Part) → eqb b 43 ≡ false → eqb b 45 ≡ false → Stops (Mark b ∷ ps)
stops_mark b ps p m = record { plus = p; minus = m }

less_again : (l : Language) (w : List ℕ) (n : ℕ) (less : Minus) (minus rest : List Part) → IsMinus less minus → Stops rest → less_one l w n (minus ++ rest) ≡ Some (NameValue w n less, rest)
unfolding less_one
less_again l w n MinusOne minus rest h stop = rw h refl
less_again l w n Zero minus rest h stop = rw h (rw stop.minus refl)

no_plus : (less : Minus) (minus rest : List Part) → IsMinus less minus → Stops rest → is_mark 43 (minus ++ rest) ≡ false
no_plus MinusOne minus rest h stop = rw h refl
no_plus Zero minus rest h stop = rw h stop.plus

named_again : (l : Language) (w : List ℕ) (n : ℕ) (less : Minus) (plus minus rest : List Part) → IsPlus n plus → IsMinus less minus → Stops rest → named_at l w (plus ++ (minus ++ rest)) ≡ Some (NameValue w n less, rest)
unfolding named_at
named_again l w n less plus minus rest (inl e) h stop = rw (e.0, e.1) (rw (no_plus less minus rest h stop) (less_again l w 0 less minus rest h stop))
named_again l w n less plus minus rest (inr e) h stop = rw (e.2, ← e.1) (less_again Listing w n less minus rest h stop)

number_again : (l : Language) (n : ℕ) (rest : List Part) → Stops rest → (number_at l n rest ≡ Some (NumberValue n, rest)) × (number_datum l n rest ≡ Some (NumberDatum n, rest))
number_again Listing n rest stop = (refl, refl)
number_again Repair n rest stop = rw stop.plus (refl, refl)

value_again : (l : Language) (v : Value) (front rest : List Part) → IsValue v front → Stops rest → next_value l (front ++ rest) ≡ Some (v, rest)
unfolding next_value
value_again l (NumberValue n) front rest h stop = rw (h.2, h.1) (number_again l (number_of h.0) rest stop).0
value_again l (NameValue w n less) front rest h stop = rw (h.2, append_assoc h.0 h.1 rest) (rw h.3 (named_again l w n less h.0 h.1 rest h.4 h.5 stop))
value_again l _ front rest h stop = absurd h

no_difference : (v : Value) (front : List Part) → IsValue v front → is_difference v ≡ false
no_difference (DifferenceValue w v) front h = absurd h
no_difference _ front h = refl

address_again : (l : Language) (v : Value) (front rest : List Part) → IsValue v front → Stops rest → next_address l (front ++ rest) ≡ Some (v, rest)
address_again Listing v front rest h stop = value_again Listing v front rest h stop
address_again Repair v front rest h stop = rw (value_again Repair v front rest h stop, no_difference v front h) refl

-- what begins with a value begins with no mark and no letter
record Begins (ps : List Part) : Type 0 where
  mark : (b : ℕ) → is_mark b ps ≡ false
  a : is_word_here (codes "a") ps ≡ false
  x : is_word_here (codes "x") ps ≡ false
  y : is_word_here (codes "y") ps ≡ false
  some : is_nil ps ≡ false

value_begins : (v : Value) (front rest : List Part) → IsValue v front → Begins (front ++ rest)
value_begins (NumberValue n) front rest h = rw h.2 (record { mark = λ b. refl; a = refl; x = refl; y = refl; some = refl })
value_begins (NameValue w n less) front rest h = let no = no_letter w h.3 in rw h.2 (record { mark = λ b. refl; a = no.0; x = no.1; y = no.2; some = refl })
value_begins _ front rest h = absurd h

-- a value that stands first in an operand
first_value : (l : Language) (v : Value) (front rest : List Part) → IsValue v front → Stops rest → form_of l (front ++ rest) ≡ tail_at l Automatic v rest
unfolding form_of
first_value l v front rest h stop = grind (arith, value_begins, address_again)

-- ---- operands

-- an operand that begins with a value, with or without `a:`
direct : (l : Language) (size : AddressSize) (v : Value) (is : List Item) (ps : List Part) (f : Form)
    → Spells (prefix_items (is_absolute size) ++ value v ∷ is) ps
    → ((rest : List Part) → Spells is rest → Stops rest × (tail_at l size v rest ≡ Some f))
    → form_of l ps ≡ Some f
unfolding form_of
direct l Absolute v is ps f h k = grind (arith, un_word, un_mark, un_value, address_again)
direct l Automatic v is ps f h k = grind (arith, un_value, first_value)

direct_alone : (l : Language) (size : AddressSize) (v : Value) (ps : List Part) → Spells (prefix_items (is_absolute size) ++ value v ∷ []) ps → form_of l ps ≡ Some (One (sized size Direct) v)
unfolding tail_at
direct_alone l size v ps h = direct l size v [] ps _ h (λ rest g. rw (nothing_left rest g) (stops_nil, refl))

direct_x : (l : Language) (size : AddressSize) (v : Value) (ps : List Part) → Spells (prefix_items (is_absolute size) ++ value v ∷ mark 44 ∷ word (codes "x") ∷ []) ps → form_of l ps ≡ Some (One (sized size DirectX) v)
unfolding tail_at
direct_x l size v ps h = direct l size v _ ps _ h (λ rest g. grind (arith, un_mark, un_word, nothing_left, stops_mark))

direct_y : (l : Language) (size : AddressSize) (v : Value) (ps : List Part) → Spells (prefix_items (is_absolute size) ++ value v ∷ mark 44 ∷ word (codes "y") ∷ []) ps → form_of l ps ≡ Some (One (sized size DirectY) v)
unfolding tail_at
direct_y l size v ps h =
    direct l size v _ ps _ h (λ rest g. let c = un_mark 44 _ rest g in let y = un_word (codes "y") [] c.0 c.2 in
    let e : str_to_ascii_lowercase y.0 ≡ str_to_ascii_lowercase (codes "y") = (bytes_eq-Decides _ _).0 y.3 in
    rw (c.1, y.2, nothing_left y.1 y.4) (stops_mark 44 _ refl refl, rw e refl))

form_again : (l : Language) (f : Form) (ps : List Part) → Spells (form_items f) ps → form_of l ps ≡ Some f
unfolding form_of immediate_of tail_at inner_at
form_again l Empty ps h = rw (nothing_left ps h) refl
form_again l Accumulator ps h = let a = un_word (codes "a") [] ps h in rw (a.2, nothing_left a.1 a.4, a.3) refl
form_again Listing (One (notation.Plain Immediate) v) ps h = grind (arith, un_mark, un_value, nothing_left, value_again)
form_again Repair (One (notation.Plain Immediate) v) ps h = grind (arith, un_mark, un_value, nothing_left, value_begins, value_again)
form_again l (One (notation.Half half) v) ps h = absurd (un_last unwritten ps h)
form_again l (One (notation.Plain Direct) v) ps h = direct_alone l Automatic v ps h
form_again l (One (notation.Plain DirectX) v) ps h = direct_x l Automatic v ps h
form_again l (One (notation.Plain DirectY) v) ps h = direct_y l Automatic v ps h
form_again l (One notation.Absolute v) ps h = direct_alone l Absolute v ps h
form_again l (One notation.AbsoluteX v) ps h = direct_x l Absolute v ps h
form_again l (One notation.AbsoluteY v) ps h = direct_y l Absolute v ps h
form_again l (Two v u) ps h =
    direct l Automatic v _ ps _ h (λ rest g. let c = un_mark 44 _ rest g in let e = un_value u [] c.0 c.2 in let b = value_begins u e.0 [] e.3 in
    rw (c.1, e.2, nothing_left e.1 e.4) (stops_mark 44 _ refl refl, rw (b.x, b.y, address_again l u e.0 [] e.3 stops_nil) refl))
form_again l (One (notation.Plain Indirect) v) ps h = grind (arith, un_mark, un_value, nothing_left, stops_mark, address_again)
form_again l (One (notation.Plain IndirectX) v) ps h = grind (arith, un_mark, un_word, un_value, nothing_left, stops_mark, address_again)
form_again l (One (notation.Plain IndirectY) v) ps h = grind (arith, un_mark, un_word, un_value, nothing_left, stops_mark, address_again)

-- ---- lists

datum_again : (l : Language) (x : Datum) (front rest : List Part) → IsDatum x front → Stops rest → next_datum l (front ++ rest) ≡ Some (x, rest)
unfolding next_datum
datum_again l (NumberDatum n) front rest h stop = rw (h.2, h.1) (number_again l (number_of h.0) rest stop).1
datum_again l (StringDatum t) front rest h stop = rw h refl
datum_again l _ front rest h stop = absurd h

joined_again : {A : Type 0} (Is : A → List Part → Type 0) (read : List Part → Option (A × List Part))
    → ((x : A) (front rest : List Part) → Is x front → Stops rest → read (front ++ rest) ≡ Some (x, rest))
    → (xs : List A) (most : ℕ) (ps : List Part) → IsList Is xs ps → length ps ≤ most → joined read (suc most) ps ≡ Some xs
unfolding joined
joined_again Is read again [] most ps h le = absurd h
joined_again Is read again (x ∷ []) most ps h le = rw (sym (append-nil ps)) (rw (again x ps [] h stops_nil) refl)
joined_again Is read again (x ∷ y ∷ ys) zero ps h le = absurd (omega (arith, ap length h.2, length-append h.0 (Mark 44 ∷ h.1)))
joined_again Is read again (x ∷ y ∷ ys) (suc most) ps h le = grind (arith, (joined_again Is read again (y ∷ ys) most h.1 h.4 (omega (arith, ap length h.2, length-append h.0 (Mark 44 ∷ h.1)))), length-append, stops_mark)

-- ---- operations and lines

-- an operation as it is read
abbrev pub read_in : Language → Operation → Operation
read_in l (Instr m f) = Instr m (operand_in l m f)
read_in l o = o

-- words that differ in letter case alone begin the same operation
alike : (l : Language) (w t : List ℕ) (ps : List Part) → same w t ≡ true → operation_at l w ps ≡ operation_at l t ps
unfolding operation_at other_at further_at directive_named mnemonic_named
alike Listing w t ps h = let e : str_to_ascii_lowercase w ≡ str_to_ascii_lowercase t = (bytes_eq-Decides _ _).0 h in rw e refl
alike Repair w t ps h = let e : str_to_ascii_lowercase w ≡ str_to_ascii_lowercase t = (bytes_eq-Decides _ _).0 h in rw e refl

-- a mnemonic begins an instruction, and a directive its numbers
instruction_again : (l : Language) (m : Mnemonic) (ps : List Part) → operation_at l (text_of m) ps ≡ (form_of l ps >>= λ f. Some (Instr m (operand_in l m f)))
unfolding operation_at other_at further_at directive_named mnemonic_named
instruction_again Listing Adc ps = refl
instruction_again Listing _ ps = refl
instruction_again Repair Adc ps = refl
instruction_again Repair _ ps = refl

values_again : (l : Language) (d : Directive) (ps : List Part) → operation_at l (directive_text d) ps ≡ values_of l d ps
unfolding operation_at directive_named
values_again l directive.Word ps = refl
values_again l _ ps = refl

-- an operation that begins with this word
begun_again : (l : Language) (text : List ℕ) (is : List Item) (ps : List Part) (o : Operation) → Spells (word text ∷ is) ps → ((rest : List Part) → Spells is rest → operation_at l text rest ≡ Some o) → operation_of l ps ≡ Some o
unfolding operation_of
begun_again l text is ps o h k = let w = un_word text is ps h in rw w.2 (alike l w.0 text w.1 w.3 ∙ k w.1 w.4)

operation_again : (l : Language) (o : Operation) (ps : List Part) → Spells (operation_items o) ps → operation_of l ps ≡ Some (read_in l o)
unfolding operation_of operation_at other_at directive_named text_in
operation_again l Nothing ps h = rw (nothing_left ps h) refl
operation_again l (Instr m f) ps h = begun_again l (text_of m) (form_items f) ps _ h (λ rest g. instruction_again l m rest ∙ rw (form_again l f rest g) refl)
operation_again l (Data xs) ps h =
    begun_again l (codes ".byte") _ ps _ h (λ rest g. rw (joined_again IsDatum (next_datum l) (datum_again l) xs (length rest) rest (un_last (data_list xs) rest g) (omega arith)) refl)
operation_again l (Values d vs) ps h =
    begun_again l (directive_text d) _ ps _ h (λ rest g. values_again l d rest ∙ rw (joined_again IsValue (next_value l) (value_again l) vs (length rest) rest (un_last (value_list vs) rest g) (omega arith)) refl)
operation_again l (Reserve n v) ps h = absurd (un_last unwritten ps h)
operation_again l (Segment t) ps h = begun_again l (codes ".segment") _ ps _ h (λ rest g. let q = un_last (quoted_name t) rest g in rw (q.1, q.0) refl)
operation_again l Code ps h = begun_again l (codes ".code") [] ps _ h (λ rest g. rw (nothing_left rest g) refl)
operation_again l (SetCpu t) ps h = begun_again l (codes ".setcpu") _ ps _ h (λ rest g. rw (un_last (string t) rest g) refl)

-- a word with which nothing can go on is no operation
none_at : (l : Language) (w : List ℕ) (ps : List Part) → ((d : Directive) → values_of l d ps ≡ None) → data_of (next_datum l) ps ≡ None → data_of (next_half Low) ps ≡ None → data_of (next_half High) ps ≡ None
    → segment_of ps ≡ None → whole Code ps ≡ None → set_cpu_of ps ≡ None → reserve_of ps ≡ None → form_of l ps ≡ None → operation_at l w ps ≡ None
unfolding operation_at other_at further_at
none_at Listing w ps values bytes low high segment code cpu reserve form = grind arith
none_at Repair w ps values bytes low high segment code cpu reserve form = grind arith

-- none of `:`, `:=` and `=` stands after the word of an operation
record IsNoLabel (l : Language) (ps : List Part) : Type 0 where
  colon : is_mark 58 ps ≡ false
  define : is_define ps ≡ false
  equals : is_equals l ps ≡ false

-- a byte with which an operation goes on is none with which nothing can
other_mark : (l : Language) (w : List ℕ) (b c : ℕ) (ps : List Part) (o : Operation) → operation_at l w (Mark b ∷ ps) ≡ Some o → operation_at l w (Mark c ∷ ps) ≡ None → eqb b c ≡ false
other_mark l w b c ps o e none = by_test (eqb b c) (λ same. absurd (let e' = rw (eqb-true b c same) at e in cc)) (λ other. other)

no_label : (l : Language) (w : List ℕ) (ps : List Part) (o : Operation) → operation_at l w ps ≡ Some o → IsNoLabel l ps
unfolding joined next_value next_datum word_datum mark_datum text_in form_of immediate_of next_half
no_label Listing w (Mark b ∷ ps) o e = grind (arith, by_test, eqb, none_at)
no_label Repair w (Mark b ∷ ps) o e = record {
  colon = other_mark Repair w b 58 ps o e (none_at Repair w (Mark 58 ∷ ps) (λ d. refl) refl refl refl refl refl refl refl refl);
  define = refl;
  equals = other_mark Repair w b 61 ps o e (none_at Repair w (Mark 61 ∷ ps) (λ d. refl) refl refl refl refl refl refl refl refl);
}
no_label Listing w (Define ∷ ps) o e = absurd (let e' = rw (none_at Listing w (Define ∷ ps) (λ d. refl) refl refl refl refl refl refl refl refl) at e in cc)
no_label Repair w (Define ∷ ps) o e = absurd (let e' = rw (none_at Repair w (Define ∷ ps) (λ d. refl) refl refl refl refl refl refl refl refl) at e in cc)
no_label Listing w _ o e = record { colon = refl; define = refl; equals = refl }
no_label Repair w _ o e = record { colon = refl; define = refl; equals = refl }

stated_again : (l : Language) (o : Operation) (ps : List Part) → operation_of l ps ≡ Some o → reading_of l ps ≡ Some (Statement None o)
unfolding reading_of line_at operation_of
stated_again l o [] e = cc
stated_again l o (Word w ∷ ps) e = let p = no_label l w ps o e in rw (p.colon, p.define, p.equals, e) refl
stated_again l o _ e = absurd cc

-- a line as it is read
abbrev pub line_in : Language → SourceLine → SourceLine
line_in l (Statement label o) = Statement label (read_in l o)
line_in l r = r

pub line_again : (l : Language) (r : SourceLine) (ps : List Part) → IsSpelling r ps → reading_of l ps ≡ Some (line_in l r)
unfolding reading_of line_at constant_of
line_again l (Assignment w n) ps h = grind (arith, un_name, un_define, un_number)
line_again l (PlaceAssignment w n) ps h = grind (arith, un_name, un_define, un_mark, un_number)
line_again l (Statement None o) ps h = stated_again l (read_in l o) ps (operation_again l o ps h)
line_again l (Statement (Some w) o) ps h = grind (arith, un_name, un_mark, operation_again)

operation_listed : (o : Operation) → read_in Listing o ≡ o
operation_listed (Instr m f) = refl
operation_listed _ = refl

-- in a listing it is what it says
pub listing_again : (r : SourceLine) (ps : List Part) → IsSpelling r ps → reading_of Listing ps ≡ Some r
listing_again (Statement label o) ps h = line_again Listing (Statement label o) ps h ∙ ap (λ (o : Operation). Some (Statement label o)) (operation_listed o)
listing_again (Assignment w n) ps h = line_again Listing (Assignment w n) ps h
listing_again (PlaceAssignment w n) ps h = line_again Listing (PlaceAssignment w n) ps h
