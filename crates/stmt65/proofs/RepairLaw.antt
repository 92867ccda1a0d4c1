-- A listing means in a repair what it means by itself.
use Rattle.std.specs.Prelude.{◌++◌, ◌||◌, ◌∷◌, ◌≡◌, None, Some, not}
use Rattle.stmt65.proofs.Lemmas.{All-head, All-tail, Bool, List, None, Option, Some, [], and_parts, ap, arith, eqb, eqb-true, false, list_all-append, map, refl, suc, sym, true, zero, ℕ, ◌∙◌}
use Rattle.isa65.specs.declared.cpu.Cpu.TheVariants.{M65C02, M65SC02}
use Rattle.std.specs.List.{All, list_all}
use Rattle.stmt65.specs.Words.{Asl, Cpu, Datum, Definition, Direct, Empty, Form, Imp, Inc, Instr, IsDatum, IsFaultless, IsItem, IsList, IsMinus, IsSpelling, IsValue, Item, KeepsListings, Language, Line, Listing, M6502, Mark, Minus, Mnemonic, NameValue, NumberDatum, One, Operation, Part, Plain, Repair, Ror, SourceLine, Spells, State, Statement, StringDatum, Value, Zero, after, coding, encoded, fault_of, form_items, has_no_form, initial, line_items, lines_below, meaning_in, meaning_of, names_of, operation_items, part_at, parts, parts_after, reading_of, readings, table_of, takes_accumulator, text_lines, ways}
use Rattle.stmt65.specs.Spelling as item
use Rattle.stmt65.specs.Types.{Dec, Lsr, Rol}
use Rattle.stmt65.specs.declared.source_line.Minus.TheVariants.{One as MinusOne}
use Rattle.stmt65.proofs.Cases.{by_test, by_option}
use Rattle.stmt65.proofs.ReadIsSpelled.{at, reading_read}
use Rattle.stmt65.proofs.SpelledIsRead.{read_in, line_in, line_again}
use Rattle.stmt65.proofs.TextLemmas.{means_bytes}

-- ---- a line of a listing that says something has no `%` and no apostrophe by itself

abbrev is_closed : Part → Bool
is_closed (Mark b) = not (eqb b 37 || eqb b 39)
is_closed _ = true

abbrev AreClosed : List Part → Type 0
AreClosed ps = list_all is_closed ps ≡ true

both_closed : (ps qs : List Part) → AreClosed ps → AreClosed qs → AreClosed (ps ++ qs)
both_closed ps qs h g = rw (list_all-append is_closed ps qs, h, g) refl

minus_closed : (less : Minus) (ps : List Part) → IsMinus less ps → AreClosed ps
minus_closed MinusOne ps h = rw h refl
minus_closed Zero ps h = rw h refl

value_closed : (v : Value) (ps : List Part) → IsValue v ps → AreClosed ps
value_closed (NameValue w n less) ps h = grind (arith, both_closed, minus_closed)
value_closed _ ps h = grind arith

datum_closed : (d : Datum) (ps : List Part) → IsDatum d ps → AreClosed ps
datum_closed (NumberDatum n) ps h = rw h.2 refl
datum_closed (StringDatum t) ps h = rw h refl
datum_closed _ ps h = absurd h

list_closed : {A : Type 0} (Is : A → List Part → Type 0) → ((x : A) (ps : List Part) → Is x ps → AreClosed ps) → (xs : List A) (ps : List Part) → IsList Is xs ps → AreClosed ps
list_closed Is each [] ps h = absurd h
list_closed Is each (x ∷ []) ps h = each x ps h
list_closed Is each (x ∷ y ∷ xs) ps h = rw h.2 (both_closed h.0 (Mark 44 ∷ h.1) (each x h.0 h.3) (list_closed Is each (y ∷ xs) h.1 h.4))

abbrev is_closed_item : Item → Bool
is_closed_item (item.mark b) = is_closed (Mark b)
is_closed_item _ = true

item_closed : (i : Item) (ps : List Part) → is_closed_item i ≡ true → IsItem i ps → AreClosed ps
item_closed (item.mark b) ps k h = rw (h, k) refl
item_closed (item.value v) ps k h = value_closed v ps h
item_closed (item.data_list xs) ps k h = list_closed IsDatum datum_closed xs ps h
item_closed (item.value_list vs) ps k h = list_closed IsValue value_closed vs ps h
item_closed _ ps k h = grind arith

spells_closed : (is : List Item) (ps : List Part) → list_all is_closed_item is ≡ true → Spells is ps → AreClosed ps
unfolding Spells
spells_closed [] ps k h = rw h refl
spells_closed (i ∷ is) ps k h = grind (arith, and_parts, both_closed, item_closed, (spells_closed is))

form_closed : (f : Form) → list_all is_closed_item (form_items f) ≡ true
form_closed (One (Plain Direct) v) = refl
form_closed _ = refl

operation_closed : (o : Operation) → list_all is_closed_item (operation_items o) ≡ true
operation_closed (Instr m f) = form_closed f
operation_closed _ = refl

line_closed : (r : SourceLine) → list_all is_closed_item (line_items r) ≡ true
line_closed (Statement None o) = operation_closed o
line_closed (Statement (Some w) o) = operation_closed o
line_closed _ = refl

spelled_closed : (r : SourceLine) (ps : List Part) → IsSpelling r ps → AreClosed ps
spelled_closed r ps h = spells_closed (line_items r) ps (line_closed r) h

-- ---- the parts of such a line

part_alike : (b : ℕ) (bs : List ℕ) → is_closed (part_at Listing b bs).0 ≡ true → part_at Repair b bs ≡ part_at Listing b bs
unfolding part_at
part_alike b bs h =
    by_test (eqb b 37)
    (λ e. absurd (let h' = rw (eqb-true b 37 e) at h in cc))
    (λ e. by_test (eqb b 39)
    (λ g. absurd (let h' = rw (eqb-true b 39 g) at h in cc))
    (λ g. rw (e, g) refl))

parts_alike : (skip : ℕ) (bs : List ℕ) → AreClosed (parts_after Listing skip bs) → parts_after Repair skip bs ≡ parts_after Listing skip bs
unfolding parts_after
parts_alike skip [] h = refl
parts_alike (suc skip) (b ∷ bs) h = parts_alike skip bs h
parts_alike zero (b ∷ bs) h = grind (arith, by_test, and_parts, part_alike, (parts_alike 0 bs), (parts_alike (part_at Listing b bs).1 bs))

-- ---- lines without a fault

by_cpu : (P : Cpu → Type 0) → P M6502 → P M65SC02 → P M65C02 → (cpu : Cpu) → P cpu
by_cpu P a b c M6502 = a
by_cpu P a b c M65SC02 = b
by_cpu P a b c M65C02 = c

-- no CPU has an instruction without an operand that can work on the accumulator
no_implied : (cpu : Cpu) (m : Mnemonic) → takes_accumulator m ≡ true → encoded (table_of cpu) m Imp ≡ None
no_implied cpu Asl h = by_cpu (λ cpu. encoded (table_of cpu) Asl Imp ≡ None) refl refl refl cpu
no_implied cpu Lsr h = by_cpu (λ cpu. encoded (table_of cpu) Lsr Imp ≡ None) refl refl refl cpu
no_implied cpu Rol h = by_cpu (λ cpu. encoded (table_of cpu) Rol Imp ≡ None) refl refl refl cpu
no_implied cpu Ror h = by_cpu (λ cpu. encoded (table_of cpu) Ror Imp ≡ None) refl refl refl cpu
no_implied cpu Inc h = by_cpu (λ cpu. encoded (table_of cpu) Inc Imp ≡ None) refl refl refl cpu
no_implied cpu Dec h = by_cpu (λ cpu. encoded (table_of cpu) Dec Imp ≡ None) refl refl refl cpu
no_implied cpu _ h = absurd cc

has_form : (all : List Definition) (s : State) (source : SourceLine) → fault_of all s (Some source) ≡ None → has_no_form s source ≡ false
unfolding fault_of
has_form all s source h = grind arith

no_empty : (s : State) (label : Option (List ℕ)) (m : Mnemonic) → takes_accumulator m ≡ true → has_no_form s (Statement label (Instr m Empty)) ≡ true
unfolding has_no_form coding ways
no_empty s label m h = rw (no_implied s.cpu m h) refl

same_operation : (all : List Definition) (s : State) (label : Option (List ℕ)) (o : Operation) → fault_of all s (Some (Statement label o)) ≡ None → read_in Repair o ≡ o
same_operation all s label (Instr m Empty) h =
    by_test (takes_accumulator m)
    (λ e. absurd (let a = has_form all s (Statement label (Instr m Empty)) h in let b = no_empty s label m e in cc))
    (λ e. rw e refl)
same_operation all s label _ h = refl

same_source : (all : List Definition) (s : State) (r : SourceLine) → fault_of all s (Some r) ≡ None → line_in Repair r ≡ r
same_source all s (Statement label o) h = ap (Statement label) (same_operation all s label o h)
same_source all s _ h = refl

-- what a line says in a language
abbrev says : Language → List ℕ → Option SourceLine
says language line = reading_of language (parts language line)

line_alike : (all : List Definition) (s : State) (line : List ℕ) → fault_of all s (says Listing line) ≡ None → says Repair line ≡ says Listing line
unfolding fault_of
line_alike all s line f =
    by_option (says Listing line)
    (λ r e. let spelled : IsSpelling r (parts Listing line) = at (λ r. IsSpelling r (parts Listing line)) (says Listing line) r e (reading_read (parts Listing line)) in
    rw (parts_alike 0 line (spelled_closed r (parts Listing line) spelled)) (line_again Repair r (parts Listing line) spelled ∙ ap Some (same_source all s r (rw e at f)) ∙ sym e))
    (λ e. absurd (let f' = rw e at f in cc))

lines_alike : (all : List Definition) (s : State) (lines : List (List ℕ)) → All (IsFaultless all) (lines_below s (map (says Listing) lines)) → map (says Repair) lines ≡ map (says Listing) lines
unfolding lines_below
lines_alike all s [] h = refl
lines_alike all s (l ∷ ls) h =
    let first : Line = record { state = s; says = says Listing l } in
    let below : List Line = lines_below (after s (says Listing l)) (map (says Listing) ls) in
    rw (line_alike all s l (All-head (IsFaultless all) first below h), lines_alike all (after s (says Listing l)) ls (All-tail (IsFaultless all) first below h)) refl

-- ---- a text

pub keeps_listings : KeepsListings
unfolding meaning_in
keeps_listings layout start text bytes h =
    ap (meaning_of layout start) (lines_alike (names_of layout start (readings Listing text)) (initial layout start) (text_lines text) ((means_bytes layout start (readings Listing text) bytes).0 h).0) ∙ h
