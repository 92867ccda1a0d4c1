-- The text of a statement is one line and a spelling of that statement, so it reads as it.
use Rattle.std.specs.Prelude.{◌%◌, ◌++◌, ◌-◌, ◌/◌, ◌<◌, ◌||◌, ◌∷◌, ◌≡◌, IsSome, Some, codes, map}
use Rattle.stmt65.proofs.Lemmas.{Bool, List, None, Option, [], and_parts, ap, append-nil, append_assoc, arith, bytes_eq-Decides, cpu_name, eqb, eqb-true, false, inl, inr, length, length-append, ltb, ltb-true, nat_tests, ne_eqb, refl, replicate, suc, sym, true, zero, ℕ, ◌∙◌}
use Rattle.std.specs.List.{flat_map, list_all}
use Rattle.std.specs.Char.{is_ascii_alphabetic}
use Rattle.std.specs.Str.{str_to_ascii_lowercase}
use Rattle.stmt65.specs.Words.{Adc, AreOperands, AreWordWide, Automatic, Code, Columns, Directive, Empty, ExprView, HasLabelName, HasName, HasNames, HasNamesIn, Imp, Instr, IsInWidth, IsItem, IsLong, IsOperand, IsPlus, IsPrintable, IsValue, IsWordWide, IsWrittenIn, Item, Listing, Mark, MayBeForced, MayBeLabelled, Mnemonic, Mode, NameValue, Number, NumberDatum, NumberValue, OperandKind, OperandsView, Operation, Part, PrintsAs, RemarksView, Row, Segment, SetCpu, SourceLine, Spells, Statement, StatementView, TargetView, Value, Word, Zero, alone, begins_with, bytes_text, character, cpu_text, cut_text, data_list, data_text, definition_fields, digits4, directive_text, distance_text, entries, entry_value, fields_of, filled, form_items, has_bytes, has_name_form, hex4, hex_digit, instr_fields, is_name, is_text_byte, is_word_byte, is_word_start, kind_text, label_fields, level_fields, line_items, line_of, long_text, mark, named_text, number, numbers_text, offset_text, operand_text, operation_items, parts, plain_line, prefix_items, prefix_text, quoted, quoted_name, remark_fields, return_text, row_form, row_of, row_operands, source_form, source_line, source_value, spaced_byte, string, text_of, value, value_list, with_fields, with_label, with_operands, word, zero_page_row}
use Rattle.isa65.specs.declared.row.OperandKind.TheVariants as kind
use Rattle.isa65.specs.declared.row.Pattern.TheVariants as pattern
use Rattle.isa65.specs.declared.row.Row.TheVariants as row
use Rattle.stmt65.specs.declared.directive.Directive.TheVariants as directive
use Rattle.stmt65.specs.declared.source_line.AddressSize.TheVariants.{Absolute}
use Rattle.stmt65.specs.declared.source_line.Minus.TheVariants.{One as MinusOne}
use Rattle.stmt65.specs.Views as view
use Rattle.stmt65.specs.Spelling as item
use Rattle.stmt65.proofs.SpelledIsRead.{listing_again}
use Rattle.stmt65.proofs.Lexed.{Ends, InLine, IsWordText, Lexes, all_as, begun, blanks_in_line, in_line, in_line_both, lexes_blanks, lexes_both, lexes_colon, lexes_define, lexes_digits, lexes_distance, lexes_hex2, lexes_hex4, lexes_item, lexes_last, lexes_mark, lexes_nothing, lexes_offset, lexes_text, lexes_word}
use Rattle.stmt65.proofs.PartLemmas.{parts_blank, parts_nil, parts_remark}
use Rattle.stmt65.proofs.Cases.{by_test}
use Rattle.stmt65.proofs.TableReads.{bytes_listed, numbers_listed, text_listed}

-- ---- items, from the last one to the front

marked : (b : ℕ) (is : List Item) (text rest : List ℕ) → begun b ≡ replicate 8 false → Lexes (Spells is) text rest → Lexes (Spells (mark b ∷ is)) (b ∷ text) rest
marked b is text rest e h = lexes_item (mark b) is (b ∷ []) text rest (lexes_mark b (text ++ rest) e) h

-- what spells its own word
own : (w : List ℕ) → IsItem (word w) (Word w ∷ [])
own w = (w, (bytes_eq-Decides (str_to_ascii_lowercase w) (str_to_ascii_lowercase w)).1 refl, refl)

worded : (w : List ℕ) (is : List Item) (text rest : List ℕ) → IsWordText w → Ends (text ++ rest) → Lexes (Spells is) text rest → Lexes (Spells (word w ∷ is)) (w ++ text) rest
worded w is text rest i e h = lexes_item (word w) is w text rest (lexes_word w (text ++ rest) i e (own w)) h

-- ---- expressions

-- a name is a word
pub name_word : (w : List ℕ) → is_name w ≡ true → IsWordText w
unfolding is_name has_name_form
name_word [] h = absurd cc
name_word (b ∷ w) h = grind (arith, and_parts, eqb)

named_lexes : (h : Bool) (name rest : List ℕ) (offset : ℕ) → is_name name ≡ true → offset < 65536 → Ends rest → Lexes (IsValue (NameValue name offset Zero)) (named_text h name offset) rest
named_lexes h name rest offset n lt e =
    by_test (eqb offset 0)
    (λ f. rw f (lexes_word name rest (name_word name n) e ([], [], refl, n, inl (eqb-true offset 0 f, refl), refl)))
    (λ f. let text = offset_text h offset in
    rw (f, append_assoc name (codes "+") text) (lexes_both name (43 ∷ text) rest (lexes_word {P = λ ps. ps ≡ Word name ∷ []} name (43 ∷ (text ++ rest)) (name_word name n) refl refl)
    (lexes_both {R = IsPlus offset} (43 ∷ []) text rest (lexes_mark 43 (text ++ rest) refl) (lexes_offset h offset rest lt e) (λ ps qs m v. inr (v.0, v.1, rw (m, v.2) refl)))
    (λ ps qs w plus. (qs, [], rw w (ap (λ (ps : List Part). Word name ∷ ps) (sym (append-nil qs))), n, plus, refl))))

-- ---- what stands after an expression

one_word : (b : ℕ) (rest : List ℕ) → IsWordText (b ∷ []) → Ends rest → Lexes (Spells (word (b ∷ []) ∷ [])) (b ∷ []) rest
one_word b rest h e = worded (b ∷ []) [] [] rest h e (lexes_nothing rest)

comma_x : (rest : List ℕ) → Ends rest → Lexes (Spells (mark 44 ∷ word (codes "x") ∷ [])) (codes ",x") rest
comma_x rest e = marked 44 _ (codes "x") rest refl (one_word 120 rest (refl, refl) e)

comma_y : (rest : List ℕ) → Ends rest → Lexes (Spells (mark 44 ∷ word (codes "y") ∷ [])) (codes ",y") rest
comma_y rest e = marked 44 _ (codes "y") rest refl (one_word 121 rest (refl, refl) e)

close : (rest : List ℕ) → Lexes (Spells (mark 41 ∷ [])) (codes ")") rest
close rest = marked 41 [] [] rest refl (lexes_nothing rest)

close_y : (rest : List ℕ) → Ends rest → Lexes (Spells (mark 41 ∷ mark 44 ∷ word (codes "y") ∷ [])) (codes "),y") rest
close_y rest e = marked 41 _ (codes ",y") rest refl (comma_y rest e)

x_close : (rest : List ℕ) → Lexes (Spells (mark 44 ∷ word (codes "x") ∷ mark 41 ∷ [])) (codes ",x)") rest
x_close rest = marked 44 _ (codes "x)") rest refl (worded (codes "x") _ (codes ")") rest (refl, refl) refl (close rest))

-- ---- expressions and what stands around them

kind_lexes : (h : Bool) (k : OperandKind) (e : ExprView) (rest : List ℕ) → IsOperand k e → HasName e → IsWordWide e → Ends rest → Lexes (IsValue (source_value e)) (kind_text h k e) rest
kind_lexes h kind.Byte (view.number m) rest s n w e = lexes_hex2 m rest s e
kind_lexes h kind.ZeroPage (view.number m) rest s n w e = lexes_hex2 m rest s e
kind_lexes h _ (view.number m) rest s n w e = lexes_hex4 m rest w e
kind_lexes h kind.Byte (view.name name offset) rest s n w e = absurd s
kind_lexes h _ (view.name name offset) rest s n w e = named_lexes h name rest offset n w e

kind_then : (h : Bool) (k : OperandKind) (e : ExprView) (is : List Item) (text rest : List ℕ) → IsOperand k e → HasName e → IsWordWide e → Ends (text ++ rest) → Lexes (Spells is) text rest
    → Lexes (Spells (value (source_value e) ∷ is)) (kind_text h k e ++ text) rest
kind_then h k e is text rest s n w ends t = lexes_item (value (source_value e)) is (kind_text h k e) text rest (kind_lexes h k e (text ++ rest) s n w ends) t

word_no_equals : (b : ℕ) → is_word_start b ≡ true → eqb b 61 ≡ false
word_no_equals b h = grind (arith, nat_tests)

-- an expression does not begin with `=`
no_equals : (h : Bool) (e : ExprView) (rest : List ℕ) → HasName e → begins_with 61 (long_text h e ++ rest) ≡ false
no_equals h (view.number n) rest has = refl
no_equals h (view.name [] offset) rest has = absurd (name_word [] has)
no_equals h (view.name (b ∷ w) offset) rest has = let no = word_no_equals b (name_word (b ∷ w) has).0 in by_test (eqb offset 0) (λ f. rw f no) (λ f. rw f no)

-- an expression after `a:`
forced : (h : Bool) (e : ExprView) (is : List Item) (text rest : List ℕ) → IsLong e → HasName e → IsWordWide e → Ends (text ++ rest) → Lexes (Spells is) text rest
    → Lexes (Spells (prefix_items true ++ value (source_value e) ∷ is)) (prefix_text true ++ (long_text h e ++ text)) rest
forced h e is text rest s n w ends t =
    worded (codes "a") _ (58 ∷ (long_text h e ++ text)) rest (refl, refl) refl
    (lexes_item (mark 58) _ (codes ":") (long_text h e ++ text) rest (lexes_colon ((long_text h e ++ text) ++ rest) (rw append_assoc (no_equals h e (text ++ rest) n))) (kind_then h kind.Word e is text rest s n w ends t))

-- ---- the operands of each row

row_spelled : (h : Bool) (r : Row) (os : OperandsView) (rest : List ℕ) → AreOperands r os → HasNamesIn os → AreWordWide os → Ends rest → Lexes (Spells (form_items (row_form r Automatic os))) (row_operands h r false os) rest
row_spelled h row.Implied view.none rest are n w ends = lexes_nothing rest
row_spelled h row.Accumulator view.none rest are n w ends = one_word 97 rest (refl, refl) ends
row_spelled h (row.One pattern.Immediate k) (view.one e) rest are n w ends = grind (arith, kind_then, marked, comma_x, comma_y, close, close_y, x_close, lexes_nothing)
row_spelled h (row.One _ k) (view.one e) rest are n w ends = grind (arith, kind_then, marked, comma_x, comma_y, close, close_y, x_close, lexes_nothing)
row_spelled h (row.Two k l) (view.two e f) rest are n w ends = grind (arith, kind_then, marked, lexes_nothing)
row_spelled h _ _ rest are n w ends = absurd are

forced_spelled : (h : Bool) (r : Row) (os : OperandsView) (rest : List ℕ) → AreOperands r os → HasNamesIn os → AreWordWide os → IsSome (zero_page_row r) → Ends rest
    → Lexes (Spells (form_items (row_form r Absolute os))) (row_operands h r true os) rest
forced_spelled h (row.One pattern.Direct kind.Word) (view.one e) rest are n w f ends = forced h e [] [] rest are n w ends (lexes_nothing rest)
forced_spelled h (row.One pattern.DirectX kind.Word) (view.one e) rest are n w f ends = forced h e _ (codes ",x") rest are n w refl (comma_x rest ends)
forced_spelled h (row.One pattern.DirectY kind.Word) (view.one e) rest are n w f ends = forced h e _ (codes ",y") rest are n w refl (comma_y rest ends)
forced_spelled h _ _ rest are n w f ends = grind arith

operand_spelled : (h : Bool) (m : Mode) (a : Bool) (os : OperandsView) (rest : List ℕ) → IsWrittenIn m os → MayBeForced m a → HasNamesIn os → AreWordWide os → Ends rest → Lexes (Spells (form_items (source_form m a os))) (operand_text h m a os) rest
unfolding operand_text source_form
operand_spelled h m false os rest are f n w ends = row_spelled h (row_of m) os rest are n w ends
operand_spelled h m true os rest are f n w ends = forced_spelled h (row_of m) os rest are n w (f refl) ends

-- ---- names between quotes

-- a name is a text between quotes, reserved or not
word_quotes : (b : ℕ) → is_word_byte b ≡ true → is_text_byte b ≡ true
word_quotes b h = grind (arith, nat_tests)

first_quotes : (b : ℕ) → (is_ascii_alphabetic b || eqb b 95) ≡ true → is_text_byte b ≡ true
first_quotes b h = grind (arith, nat_tests)

pub name_quotes : (w : List ℕ) → has_name_form w ≡ true → list_all is_text_byte w ≡ true
unfolding has_name_form
name_quotes [] h = absurd cc
name_quotes (b ∷ w) h = grind (arith, and_parts, eqb, first_quotes, all_as, word_quotes)

-- ---- fields

record IsBlankAfter (line text : List ℕ) : Type 0 where
  count : ℕ
  blanks : text ≡ line ++ 32 ∷ replicate count 32

blank_between : (line : List ℕ) (column : ℕ) → 0 < length line → IsBlankAfter line (filled line column)
unfolding filled
blank_between [] column lt = absurd (omega arith)
blank_between (b ∷ bs) column lt =
    by_test (ltb (suc (length bs)) (column - 1))
    (λ e.
    let k : column - 1 - suc (length bs) ≡ suc (column - 2 - suc (length bs)) = omega (arith, ltb-true (suc (length bs)) (column - 1) e) in
    record { count = column - 2 - suc (length bs); blanks = rw (e, k) refl })
    (λ e. record { count = 0; blanks = rw (e, ne_eqb (suc (length bs)) 0 (λ z. absurd (omega arith))) refl })

filled_is : (line : List ℕ) (column : ℕ) → (n : ℕ) × (filled line column ≡ line ++ replicate n 32)
unfolding filled
filled_is [] column = by_test (ltb 0 (column - 1)) (λ e. rw e (column - 1 - 0, refl)) (λ e. rw e (0, refl))
filled_is (b ∷ bs) column = let f = blank_between (b ∷ bs) column (omega arith) in (suc f.count, f.blanks)

-- the line has these items, and a field that follows it has its own
abbrev Leads : List ℕ → List Item → Type 0
Leads line before = (column : ℕ) (is : List Item) (text rest : List ℕ) → Lexes (Spells is) text rest → Lexes (Spells (before ++ is)) (filled line column ++ text) rest

leads_nothing : Leads [] []
leads_nothing column is text rest h = let f = filled_is [] column in rw f.1 (lexes_blanks f.0 text rest h)

-- a blank follows a line that is not empty
leads_by_blank : (line : List ℕ) (before : List Item) → 0 < length line → ((is : List Item) (text rest : List ℕ) → Lexes (Spells is) text rest → Lexes (Spells (before ++ is)) (line ++ 32 ∷ text) rest) → Leads line before
leads_by_blank line before some k column is text rest h =
    let f = blank_between line column some in
    rw (f.blanks, append_assoc) (k is (replicate f.count 32 ++ text) rest (lexes_blanks f.count text rest h))

long_word : (line w : List ℕ) → IsWordText w → 0 < length (line ++ w)
long_word line [] h = absurd h
long_word line (b ∷ w) h = omega (arith, length-append line (b ∷ w))

-- a line, and a word as its next field
leads_word : (i : Item) (line : List ℕ) (before : List Item) (column : ℕ) (w : List ℕ) → Leads line before → IsWordText w → IsItem i (Word w ∷ []) → Leads (filled line column ++ w) (before ++ i ∷ [])
leads_word i line before column w l h item =
    leads_by_blank (filled line column ++ w) (before ++ i ∷ []) (long_word (filled line column) w h)
    (λ is text rest t. rw (append_assoc before (i ∷ []) is, append_assoc (filled line column) w (32 ∷ text))
    (l column (i ∷ is) (w ++ 32 ∷ text) rest (lexes_item i is w (32 ∷ text) rest (lexes_word w (32 ∷ (text ++ rest)) h refl item) (lexes_blanks 1 text rest t))))

-- a name and `:`
label_lexes : (is : List Item) (name text rest : List ℕ) → is_name name ≡ true → begins_with 61 (text ++ rest) ≡ false → Lexes (Spells is) text rest → Lexes (Spells (item.name name ∷ mark 58 ∷ is)) (name ++ 58 ∷ text) rest
label_lexes is name text rest n e h =
    lexes_item (item.name name) (mark 58 ∷ is) name (58 ∷ text) rest (lexes_word name (58 ∷ (text ++ rest)) (name_word name n) refl (n, refl))
    (lexes_item (mark 58) is (codes ":") text rest (lexes_colon (text ++ rest) e) h)

-- ---- labels

abbrev label_items : Option (List ℕ) → List Item
label_items None = []
label_items (Some name) = item.name name ∷ mark 58 ∷ []

leads_start : (label : Option (List ℕ)) → HasLabelName label → Leads (with_fields [] (label_fields label)) (label_items label)
unfolding filled
leads_start None n = leads_nothing
leads_start (Some name) n =
    leads_by_blank (name ++ codes ":") (item.name name ∷ mark 58 ∷ []) (omega (arith, length-append name (codes ":")))
    (λ is text rest h. rw (append_assoc name (codes ":") (32 ∷ text)) (label_lexes is name (32 ∷ text) rest n refl (lexes_blanks 1 text rest h)))

-- an operation is spelled, with the label before it
labelled : (label : Option (List ℕ)) (o : Operation) → line_items (with_label label (Statement None o)) ≡ label_items label ++ operation_items o
labelled None o = refl
labelled (Some name) o = refl

-- ---- operations

-- the text is a spelling of a line
abbrev Says : SourceLine → List ℕ → List ℕ → Type 0
Says r text rest = Lexes (Spells (line_items r)) text rest

directive_word : (d : Directive) → IsWordText (directive_text d)
directive_word directive.Word = (refl, refl)
directive_word _ = (refl, refl)

mnemonic_word : (m : Mnemonic) → IsWordText (text_of m)
mnemonic_word Adc = (refl, refl)
mnemonic_word _ = (refl, refl)

-- an operation with operands, after a label or none
operated : (label : Option (List ℕ)) (c : Columns) (w operands : List ℕ) (o : Operation) (is : List Item) (rest : List ℕ) → HasLabelName label → operation_items o ≡ word w ∷ is → IsWordText w → Lexes (Spells is) operands rest
    → Says (with_label label (Statement None o)) (with_fields (with_fields [] (label_fields label)) (with_operands c w operands)) rest
operated label c w operands o is rest n e h t =
    rw (labelled label o, e, sym (append_assoc (label_items label) (word w ∷ []) is))
    (leads_word (word w) (with_fields [] (label_fields label)) (label_items label) c.mnemonic w (leads_start label n) h (own w) c.argument is operands rest t)

unoperated : (label : Option (List ℕ)) (c : Columns) (w : List ℕ) (o : Operation) (rest : List ℕ) → HasLabelName label → operation_items o ≡ word w ∷ [] → IsWordText w → Ends rest
    → Says (with_label label (Statement None o)) (with_fields (with_fields [] (label_fields label)) (alone c w)) rest
unoperated label c w o rest n e h ends = rw (labelled label o, e) (leads_start label n c.mnemonic (word w ∷ []) w rest (lexes_last (word w) w rest (lexes_word w rest h ends (own w))))

instr_spelled : (label : Option (List ℕ)) (c : Columns) (h : Bool) (m : Mnemonic) (mode : Mode) (a : Bool) (os : OperandsView) (rest : List ℕ) → HasLabelName label → IsWrittenIn mode os → MayBeForced mode a → HasNamesIn os → AreWordWide os → Ends rest
    → Says (with_label label (Statement None (Instr m (source_form mode a os)))) (with_fields (with_fields [] (label_fields label)) (instr_fields c h (record { mnemonic = m; mode = mode }) a os)) rest
unfolding source_form
instr_spelled label c h m Imp a view.none rest l are f n w ends = unoperated label c (text_of m) (Instr m Empty) rest l refl (mnemonic_word m) ends
instr_spelled label c h m Imp a _ rest l are f n w ends = absurd are
instr_spelled label c h m mode a os rest l are f n w ends = operated label c (text_of m) (operand_text h mode a os) (Instr m (source_form mode a os)) _ rest l refl (mnemonic_word m) (operand_spelled h mode a os rest are f n w ends)

-- the only operand of a directive
abbrev single : Value → List Item
single v = value_list (v ∷ []) ∷ []

return_spelled : (h : Bool) (t : TargetView) (rest : List ℕ) → is_name t.name ≡ true → t.offset < 65536 → Ends rest → Lexes (IsValue (NameValue t.name t.offset MinusOne)) (return_text h (Some t)) rest
return_spelled h t rest n w e =
    lexes_both (named_text h t.name t.offset) (codes "-1") rest (named_lexes h t.name (codes "-1" ++ rest) t.offset n w refl)
    (lexes_both {R = λ qs. qs ≡ Mark 45 ∷ Number (codes "1") ∷ []} (codes "-") (codes "1") rest (lexes_mark 45 (49 ∷ rest) refl) (lexes_digits {P = λ qs. qs ≡ Number (codes "1") ∷ []} (codes "1") rest (omega arith) refl e refl) (λ ps qs m d. rw (m, d) refl))
    (λ ps qs v m. grind arith)

-- a name, `:=` and its number
definition_spelled : (c : Columns) (name text rest : List ℕ) (is : List Item) → is_name name ≡ true → Lexes (Spells is) text rest → Lexes (Spells (item.name name ∷ item.define ∷ is)) (with_fields [] (definition_fields c name text)) rest
definition_spelled c name text rest is n h =
    leads_word (item.name name) [] [] 1 name leads_nothing (name_word name n) (n, refl) c.argument (item.define ∷ is) (codes ":= " ++ text) rest
    (lexes_item item.define is (codes ":=") (32 ∷ text) rest (lexes_define (32 ∷ (text ++ rest))) (lexes_blanks 1 text rest h))

-- ---- each statement

-- what follows a statement: nothing, or a remark
record IsTail (rest : List ℕ) : Type 0 where
  ends : Ends rest
  no_equals : begins_with 61 rest ≡ false
  none : parts Listing rest ≡ []
  in_line : InLine rest

remark_spelled : (text rest : List ℕ) → InLine text → parts Listing rest ≡ [] → Lexes (Spells []) (with_fields [] (remark_fields text)) rest
unfolding Spells filled
remark_spelled text rest h none = record { front = []; split = parts_remark Listing (32 ∷ (text ++ rest)) ∙ sym none; is = refl; in_line = h }

-- the text of a statement is a spelling of it
spelled_back : (c : Columns) (h : Bool) (label : Option (List ℕ)) (s : StatementView) (rest : List ℕ) → IsPrintable s → IsInWidth s → HasNames s → MayBeLabelled c label s → HasLabelName label → IsTail rest
    → Says (with_label label (source_line s)) (with_fields (with_fields [] (label_fields label)) (fields_of c h s)) rest
unfolding filled
spelled_back c h label (view.instr op a os) rest p w n m l t = instr_spelled label c h op.mnemonic op.mode a os rest l p.0 p.1 n w t.ends
spelled_back c h label (view.bytes bs) rest p w n m l t = operated label c (codes ".byte") (bytes_text bs) _ _ rest l refl (refl, refl) (lexes_last (data_list (map NumberDatum bs)) _ rest (bytes_listed bs rest p.0 w t.ends))
spelled_back c h label (view.text bs) rest p w n m l t = operated label c (codes ".byte") (data_text (cut_text bs)) _ _ rest l refl (refl, refl) (lexes_last (data_list (cut_text bs)) _ rest (text_listed bs rest p.0 w t.ends))
spelled_back c h label (view.numbers d bs) rest p w n m l t = operated label c (directive_text d) (numbers_text d bs) _ _ rest l refl (directive_word d) (lexes_last (value_list (map (entry_value d) (entries d bs))) _ rest (numbers_listed d bs rest p.1.0 w t.ends))
spelled_back c h label (view.addr a) rest p w n m l t = operated label c (codes ".addr") (named_text h a.name a.offset) _ (single (NameValue a.name a.offset Zero)) rest l refl (refl, refl) (lexes_last _ _ rest (named_lexes h a.name rest a.offset n w t.ends))
spelled_back c h label (view.rts None) rest p w n m l t = operated label c (codes ".word") (codes "$FFFF") _ (single (NumberValue 0xFFFF)) rest l refl (refl, refl) (lexes_last _ _ rest (lexes_hex4 0xFFFF rest (omega arith) t.ends))
spelled_back c h label (view.rts (Some a)) rest p w n m l t = operated label c (codes ".word") (return_text h (Some a)) _ (single (NameValue a.name a.offset MinusOne)) rest l refl (refl, refl) (lexes_last _ _ rest (return_spelled h a rest n w t.ends))
spelled_back c h None (view.label name) rest p w n m l t = label_lexes [] name [] rest n t.no_equals (lexes_nothing rest)
spelled_back c h None (view.assignment name k) rest p w n m l t = definition_spelled c name (hex4 k) rest _ n (lexes_last (number k) (hex4 k) rest (lexes_hex4 k rest w t.ends))
spelled_back c h None (view.forward name k) rest p w n m l t =
    definition_spelled c name (codes "* + " ++ distance_text h k) rest _ n (marked 42 _ (32 ∷ 43 ∷ 32 ∷ distance_text h k) rest refl (lexes_blanks 1 (43 ∷ 32 ∷ distance_text h k) rest
    (marked 43 _ (32 ∷ distance_text h k) rest refl (lexes_blanks 1 (distance_text h k) rest (lexes_last (number k) (distance_text h k) rest (lexes_distance h k rest w t.ends))))))
spelled_back c h None (view.segment name) rest p w n m l t = operated None c (codes ".segment") (quoted name) (Segment name) (quoted_name name ∷ []) rest l refl (refl, refl) (lexes_last _ _ rest (lexes_text name rest (name_quotes name n) (n, refl)))
spelled_back c h None view.code rest p w n m l t = unoperated None c (codes ".code") Code rest l refl (refl, refl) t.ends
spelled_back c h None (view.set_cpu cpu) rest p w n m l t = operated None c (codes ".setcpu") (quoted (cpu_text cpu)) (SetCpu (cpu_text cpu)) (string (cpu_text cpu) ∷ []) rest l refl (refl, refl) (lexes_last _ _ rest (lexes_text (cpu_text cpu) rest (cpu_name cpu).quotable refl))
spelled_back c h None view.blank rest p w n m l t = lexes_nothing rest
spelled_back c h None (view.remark text) rest p w n m l t = remark_spelled text rest p.1 t.none
spelled_back c h (Some name) _ rest p w n m l t = let none = m.0 in absurd cc

-- ---- what stands after a statement

no_tail : IsTail []
no_tail = record { ends = refl; no_equals = refl; none = parts_nil Listing; in_line = refl }

remark_tail : (n : ℕ) (text : List ℕ) → InLine text → IsTail (replicate n 32 ++ 59 ∷ text)
remark_tail zero text h = record { ends = refl; no_equals = refl; none = parts_remark Listing text; in_line = h }
remark_tail (suc n) text h = let t = remark_tail n text h in record { ends = refl; no_equals = refl; none = parts_blank Listing 32 _ refl ∙ t.none; in_line = t.in_line }

-- the line goes on with such a rest
record GoesOn (line text : List ℕ) : Type 0 where
  tail : List ℕ
  split : text ≡ line ++ tail
  is : IsTail tail

-- a remark at a column
remark_after : (line : List ℕ) (column : ℕ) (text : List ℕ) → InLine text → GoesOn line (filled line column ++ 59 ∷ text)
remark_after line column text h = let f = filled_is line column in record { tail = replicate f.0 32 ++ 59 ∷ text; split = rw f.1 (append_assoc line (replicate f.0 32) (59 ∷ text)); is = remark_tail f.0 text h }

-- and another field after it
field_after : (line : List ℕ) (column other : ℕ) (text more : List ℕ) → InLine text → InLine more → GoesOn line (filled (filled line column ++ 59 ∷ text) other ++ more)
field_after line column other text more h g =
    let f = filled_is (filled line column ++ 59 ∷ text) other in
    rw (f.1, append_assoc (filled line column ++ 59 ∷ text) (replicate f.0 32) more, append_assoc (filled line column) (59 ∷ text) (replicate f.0 32 ++ more))
    (remark_after line column (text ++ (replicate f.0 32 ++ more)) (in_line_both text _ h (in_line_both (replicate f.0 32) more (blanks_in_line f.0) g)))

hex_digit_in_line : (d : ℕ) → in_line (hex_digit d) ≡ true
hex_digit_in_line d = grind (arith, nat_tests)

bytes_in_line : (bs : List ℕ) → InLine (flat_map spaced_byte bs)
bytes_in_line [] = refl
bytes_in_line (b ∷ bs) = rw (hex_digit_in_line (b / 16 % 16), hex_digit_in_line (b % 16)) (bytes_in_line bs)

address_in_line : (n : ℕ) → InLine (digits4 n)
address_in_line n = rw (hex_digit_in_line (n / 4096 % 16), hex_digit_in_line (n / 256 % 16), hex_digit_in_line (n / 16 % 16), hex_digit_in_line (n % 16)) refl

characters_in_line : (bs : List ℕ) → InLine (map character bs)
characters_in_line [] = refl
characters_in_line (b ∷ bs) = let c : in_line (character b) ≡ true = grind (arith, nat_tests) in rw c (characters_in_line bs)

level_after : (line : List ℕ) (c : Columns) (level address : ℕ) (bytes : List ℕ) → GoesOn line (with_fields line (level_fields c level address bytes))
level_after line c level address bytes =
    let short : InLine (32 ∷ digits4 address) = address_in_line address in
    let long : InLine (32 ∷ (digits4 address ++ flat_map spaced_byte bytes)) = in_line_both (digits4 address) (flat_map spaced_byte bytes) short (bytes_in_line bytes) in
    by_test (ltb level 2)
    (λ e. rw e (record { tail = []; split = sym (append-nil line); is = no_tail }))
    (λ e. rw e (by_test (ltb level 3)
    (λ f. rw f (remark_after line c.comment (32 ∷ digits4 address) short))
    (λ f. rw f (by_test (ltb level 4)
    (λ g. rw g (remark_after line c.comment (32 ∷ (digits4 address ++ flat_map spaced_byte bytes)) long))
    (λ g. rw g (field_after line c.comment c.text (32 ∷ (digits4 address ++ flat_map spaced_byte bytes)) (map character bytes) long (characters_in_line bytes)))))))

line_after : (c : Columns) (s : StatementView) (r : RemarksView) → GoesOn (plain_line c s r) (line_of c s r)
unfolding line_of
line_after c s r = by_test (has_bytes s) (λ e. rw e (level_after (plain_line c s r) c r.level r.address r.bytes)) (λ e. rw e (record { tail = []; split = sym (append-nil (plain_line c s r)); is = no_tail }))

-- the line of a statement is one line, and it reads as that statement with its label
pub prints_as : (c : Columns) (s : StatementView) (r : RemarksView) → IsPrintable s → IsInWidth s → HasNames s → MayBeLabelled c r.label s → HasLabelName r.label
    → PrintsAs (line_of c s r ++ 10 ∷ []) (with_label r.label (source_line s))
prints_as c s r p w n m l =
    let says = with_label r.label (source_line s) in
    let after = line_after c s r in
    let t = spelled_back c r.hexoffs r.label s after.tail p w n m l after.is in
    let same : parts Listing (line_of c s r) ≡ t.front = ap (parts Listing) after.split ∙ t.split ∙ ap (λ (ps : List Part). t.front ++ ps) after.is.none ∙ append-nil t.front in
    record {
      line = line_of c s r;
      ends = refl;
      one_line = rw after.split (in_line_both (plain_line c s r) after.tail t.in_line after.is.in_line);
      reads = rw same (listing_again says t.front t.is);
    }
