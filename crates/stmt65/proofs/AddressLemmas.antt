-- The address after each line of a text.
use Rattle.std.proofs.Common.{◌≡◌, ℕ, leb, ◌+◌, ◌-◌, ◌<◌, ◌≤◌, List, [], ◌∷◌, ◌++◌, length, map, Option, Some, None, refl, sym, ap, ◌∙◌, append_assoc, arith, length-append}
use Rattle.std.specs.Prelude.{IfOk, Result, Ok, Err}
use Rattle.std.specs.List.{All, flat_map, prefix_len}
use Rattle.std.proofs.lemmas.List.{append-nil}
use Rattle.std.proofs.lemmas.List.Elements.{All-head, All-tail}
use Rattle.std.proofs.lemmas.Bool.{leb-false, leb-true}
use Rattle.stmt65.specs.Words.{AsmFault, Definition, FindsLine, GivesByte, IsFaultless, Language, Layout, Line, SourceLine, State, address_after, after, bytes_of, fault_of, held, held_after, initial, line_addresses, line_bytes, line_past, lines_below, lines_of, meaning_in, names_of, parts, reading_of, readings}
use Rattle.text65.specs.Lines.{text_lines}
use Rattle.stmt65.proofs.Cases.{by_test}
use Rattle.stmt65.proofs.HeldLemmas.{after-held, held_state, initial-held, none_past}
use Rattle.stmt65.proofs.TextLemmas.{at-after, means_bytes}

-- ---- the addresses as the code holds them

unfoldable pub held_addresses : State → List (Option SourceLine) → List ℕ
held_addresses s [] = []
held_addresses s (l ∷ ls) = (held_after s l).at ∷ held_addresses (held_after s l) ls

pub addresses_step : (l : Language) (s t : State) (text line rest found more all : List ℕ) → found ++ held_addresses s (readings l text) ≡ all → text_lines text ≡ line ∷ text_lines rest → t ≡ held_after s (reading_of l (parts l line)) → more ≡ found ++ t.at ∷ []
    → more ++ held_addresses t (readings l rest) ≡ all
unfolding held_addresses
addresses_step l s t text line rest found more all h e k m = grind (arith, append_assoc)

-- ---- and those of the meaning

addresses-held : (s : State) (ls : List (Option SourceLine)) → held_addresses (held_state s) ls ≡ map held (map address_after (lines_below s ls))
unfolding held_addresses lines_below held_state
addresses-held s [] = refl
addresses-held s (l ∷ ls) = rw (after-held s l) (ap (λ (more : List ℕ). held (after s l).at ∷ more) (addresses-held (after s l) ls))

pub found_lines : (l : Language) (layout : Layout) (start : ℕ) (s : State) (whole text found : List ℕ) → start < 65536 → found ++ held_addresses s (readings l text) ≡ held_addresses (initial layout start) (readings l whole) → text_lines text ≡ []
    → found ≡ map held (line_addresses layout start (readings l whole))
unfolding held_addresses line_addresses
found_lines l layout start s whole text found small h e =
    let h' = rw (e, append-nil found) at h in
    h' ∙ ap (λ (t : State). held_addresses t (readings l whole)) (sym (initial-held layout start small)) ∙ addresses-held (initial layout start) (readings l whole)

-- ---- of a text that has bytes

address-exact : (all : List Definition) (s : State) (l : Option SourceLine) → fault_of all s l ≡ None → held (after s l).at ≡ (after s l).at
unfolding after fault_of
address-exact all s None e = absurd cc
address-exact all s (Some source) e = none_past all s source (sym e)

addresses-exact : (all : List Definition) (s : State) (ls : List (Option SourceLine)) → All (IsFaultless all) (lines_below s ls) → map held (map address_after (lines_below s ls)) ≡ map address_after (lines_below s ls)
unfolding lines_below
addresses-exact all s [] h = refl
addresses-exact all s (l ∷ ls) h =
    grind (arith, (address-exact all s l), All-head, (addresses-exact all (after s l) ls (All-tail (IsFaultless all) (record { state = s; says = l }) (lines_below (after s l) ls) h)))

exact : (l : Language) (layout : Layout) (start : ℕ) (text bytes found : List ℕ) → meaning_in l layout start text ≡ Ok bytes → found ≡ map held (line_addresses layout start (readings l text)) → found ≡ line_addresses layout start (readings l text)
unfolding meaning_in line_addresses
exact l layout start text bytes found e h = h ∙ addresses-exact (names_of layout start (readings l text)) (initial layout start) (readings l text) ((means_bytes layout start (readings l text) bytes).0 e).0

pub lines_exact : (l : Language) (layout : Layout) (start : ℕ) (text found : List ℕ) → found ≡ map held (line_addresses layout start (readings l text)) → (m : Result (List ℕ) AsmFault) → meaning_in l layout start text ≡ m → IfOk m (λ _. found ≡ line_addresses layout start (readings l text))
lines_exact l layout start text found h (Ok bytes) e = exact l layout start text bytes found e h
lines_exact l layout start text found h (Err fault) e = tt

-- ---- the line of a byte

finds_from : (all : List Definition) (s : State) (ls : List (Option SourceLine)) (offset : ℕ) → offset < length (flat_map (line_bytes all) (lines_below s ls))
    → GivesByte all (lines_below s ls) offset (line_past (s.at + offset) (map address_after (lines_below s ls)))
unfolding lines_below
finds_from all s [] offset h = absurd (omega arith)
finds_from all s (l ∷ ls) offset h =
    let line : Line = record { state = s; says = l } in
    let lines = lines_below (after s l) ls in
    let next = at-after all s l in
    by_test (leb (after s l).at (s.at + offset))
    (λ e.
    let here : length (line_bytes all line) ≤ offset = omega (arith, leb-true (after s l).at (s.at + offset) e) in
    let ih = finds_from all (after s l) ls (offset - length (bytes_of all s l)) (omega (arith, here, length-append (bytes_of all s l) (flat_map (line_bytes all) lines), h)) in
    let same : (after s l).at + (offset - length (bytes_of all s l)) ≡ s.at + offset = omega (arith, here, next) in
    let count : prefix_len (λ a. leb a (s.at + offset)) (map address_after lines) + 1 ≡ length ih.above + 1 = ap (λ (n : ℕ). line_past n (map address_after lines)) (sym same) ∙ ih.number in
    let front = length-append (bytes_of all s l) (flat_map (line_bytes all) ih.above) in
    record {
      above = line ∷ ih.above;
      line = ih.line;
      below = ih.below;
      parts = ap (λ (xs : List Line). line ∷ xs) ih.parts;
      number = rw e (omega (arith, count));
      begins = omega (arith, front, ih.begins, here);
      ends = omega (arith, front, ih.ends, here);
    })
    (λ e.
    let past = leb-false (after s l).at (s.at + offset) e in
    record { above = []; line = line; below = lines; parts = refl; number = rw e refl; begins = omega arith; ends = omega (arith, next, past) })

pub finds_line : FindsLine
unfolding line_addresses
finds_line layout start ls bytes offset e h =
    let all = names_of layout start ls in
    let are : bytes ≡ flat_map (line_bytes all) (lines_of layout start ls) = ((means_bytes layout start ls bytes).0 e).1 in
    finds_from all (initial layout start) ls offset (rw are at h)
