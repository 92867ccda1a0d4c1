-- What the code holds of a text is enough for its meaning.
use Rattle.std.proofs.Common.{◌≡◌, ℕ, Bool, false, ltb, ◌+◌, ◌<◌, List, [], ◌∷◌, Option, Some, None, refl, sym, ap, ◌∙◌, arith}
use Rattle.std.specs.Prelude.{◌≤◌, Result, is_none, unwrap_or, is_some, ◌||◌, IfSome}
use Rattle.std.specs.List.{list_any}
use Rattle.std.proofs.lemmas.List.{map-append}
use Rattle.std.proofs.lemmas.Bool.{ltb-false, ltb-true}
use Rattle.std.proofs.lemmas.Bool.Decides.{nat_tests}
use Rattle.std.specs.Option.{option_map}
use Rattle.stmt65.specs.Words.{AsmFault, Assignment, Coded, Data, Definition, DifferenceValue, Distance, Form, Fragment, Instr, IsCoding, Language, Layout, LessValue, NameValue, NumberValue, One, Operation, PlaceAssignment, Segment, SourceLine, State, Statement, Two, Value, Values, address_of, after, below, below_place, bytes_at, bytes_of, coded, coding, coding_len, defined_by, definitions_of, fault_at, fault_of, final, find_name, fragment_fits, fragments_in, fragments_of, gap, has_large, has_no_form, has_zero_page_size, held, held_after, held_coded, held_definitions, held_final, here_in, here_offset, initial, is_before, is_named_in, is_near, is_out_of_range, is_past_end, is_past_start, is_short, is_twice, is_undefined, line_in, line_then, meaning_in, meaning_of, names_for, next_of, operation_in, place_in, readings, unless, value_in, with_front, with_here, word_in}
use Rattle.stmt65.proofs.Cases.{by_option, by_test}
use Rattle.stmt65.proofs.NameLemmas.{address-held, constant-held, find_name-held, held_here, here_held, line_then-held, number-held, same_fault, small_capped, some-held}

-- what the coding of a line is coded as, and the address after it
pub fragments_coded : (s : State) (source : SourceLine) (coded : Option Coded) → IsCoding coded s (operation_in source) → fragments_in coded ≡ fragments_of s source
unfolding fragments_of
fragments_coded s source coded e = ap (λ (o : Option (List Fragment)). unwrap_or o []) e

pub form_coded : (s : State) (source : SourceLine) (coded : Option Coded) → IsCoding coded s (operation_in source) → is_none coded ≡ has_no_form s source
unfolding has_no_form
form_coded s source coded e = grind arith

pub next_coded : (s : State) (source : SourceLine) (coded : Option Coded) (len : ℕ) → IsCoding coded s (operation_in source) → len ≡ held (coding_len (fragments_in coded)) → held (s.at + len) ≡ held (next_of s source)
unfolding next_of
next_coded s source coded len e f = rw (f, fragments_coded s source coded e) (omega arith)

-- ---- a line is in its place what it is by the rules

any_named-held : (p : List ℕ → Bool) (ds : List Definition) → list_any (λ d. p d.name) (held_definitions ds) ≡ list_any (λ d. p d.name) ds
any_named-held p [] = refl
any_named-held p (d ∷ ds) = ap (λ (b : Bool). p d.name || b) (any_named-held p ds)

large-held : (ds : List Definition) → has_large (held_definitions ds) ≡ has_large ds
large-held [] = refl
large-held (d ∷ ds) = let same : ltb 65535 (held d.value) ≡ ltb 65535 d.value = grind (arith, nat_tests) in rw (same, large-held ds) refl

near-held : (next : ℕ) (o : Option ℕ) → is_near (held next) (below 65536 o) ≡ is_near next (below 65536 o)
near-held next o = grind arith

fits-held : (all : List Definition) (next : ℕ) (f : Fragment) → fragment_fits all (held next) f ≡ fragment_fits all next f
unfolding fragment_fits word_in
fits-held all next (Distance v) = near-held next (value_in all v)
fits-held all next _ = refl

past-held : (n : ℕ) → ltb 65536 (held n) ≡ ltb 65536 n
past-held n = grind (arith, nat_tests)

fault-placed : (all : List Definition) (s : State) (source : SourceLine) → fault_at all (Some (place_in s source)) ≡ fault_of all s (Some source)
unfolding fault_at place_in fault_of is_undefined is_twice is_out_of_range is_past_end
fault-placed all s source =
    let at : Option ℕ = here_in s.at (operation_in source) in
    let names : List Definition = names_for all s source in
    let named = any_named-held (λ w. is_some (find_name w s.above)) (defined_by s.at source) in
    let fits : fragment_fits names (held (next_of s source)) ≡ fragment_fits names (next_of s source) = λ i f. fits-held names (next_of s source) f i in
    same_fault names (with_here (option_map held at) all) (place_in s source) (held_here at all) (here_held at all)
    ∙ rw (named, large-held (defined_by s.at source), fits, past-held (next_of s source)) refl

-- the address after a line without a fault
pub none_past : (all : List Definition) (s : State) (source : SourceLine) → None ≡ fault_of all s (Some source) → held (next_of s source) ≡ next_of s source
unfolding fault_of is_past_end
none_past all s source h = let past : ltb 65536 (next_of s source) ≡ false = grind arith in omega (arith, ltb-false 65536 (next_of s source) past)

offset-small : (o : Operation) → IfSome (here_offset o) (λ n. n ≤ 2)
offset-small (Instr m (Two v w)) = omega arith
offset-small (Instr m _) = omega arith
offset-small (Data (d ∷ [])) = omega arith
offset-small (Values d (v ∷ [])) = omega arith
offset-small _ = tt

here-exact : (at : ℕ) (offset : Option ℕ) → at ≤ 65536 → IfSome offset (λ n. n ≤ 2) → option_map held (option_map (λ n. at + n) offset) ≡ option_map (λ n. at + n) offset
here-exact at None low small = refl
here-exact at (Some n) low small = let same : held (at + n) ≡ at + n = omega (arith, small) in rw same refl

-- the address of a line without a fault
none_low : (all : List Definition) (s : State) (source : SourceLine) → None ≡ fault_of all s (Some source) → s.at ≤ 65536
unfolding fault_of is_past_end next_of
none_low all s source h = let past : ltb 65536 (s.at + coding_len (fragments_of s source)) ≡ false = grind arith in omega (arith, ltb-false 65536 (s.at + coding_len (fragments_of s source)) past)

bytes-placed : (all : List Definition) (s : State) (source : SourceLine) → None ≡ fault_of all s (Some source) → bytes_at all (Some (place_in s source)) ≡ bytes_of all s (Some source)
unfolding bytes_at place_in bytes_of
bytes-placed all s source h = rw (none_past all s source h, here-exact s.at (here_offset (operation_in source)) (none_low all s source h) (offset-small (operation_in source))) refl

-- ---- a state, held

unfoldable pub held_state : State → State
held_state s = record { at = held s.at; cpu = s.cpu; above = held_definitions s.above; layout = s.layout }

size-held : (ds : List Definition) (v : Value) → has_zero_page_size (held_definitions ds) v ≡ has_zero_page_size ds v
unfolding has_zero_page_size value_in
size-held ds (NumberValue n) = refl
size-held ds (DifferenceValue w v) = refl
size-held ds (LessValue w n) = rw (find_name-held w ds, constant-held (find_name w ds), address-held (find_name w ds)) refl
size-held ds (NameValue w n less) = rw (find_name-held w ds, constant-held (find_name w ds), small_capped _ _ (number-held less n (find_name w ds))) refl

short-held : (ds : List Definition) (form : Form) → is_short (held_definitions ds) form ≡ is_short ds form
short-held ds (One notation v) = size-held ds v
short-held ds (Two v w) = size-held ds v
short-held ds _ = refl

-- an address, from one that is held: what is missing before it, and whether it lies before
gap-held : (layout : Layout) (at : ℕ) (o : Option Definition) → gap layout (held at) (address_of o) ≡ gap layout at (address_of o)
gap-held layout at o = grind (arith, ltb-true)

before-held : (at : ℕ) (o : Option Definition) → is_before (address_of o) (held at) ≡ is_before (address_of o) at
before-held at o = grind (arith, nat_tests, by_test)

coding-held : (s : State) (operation : Operation) → coding (held_state s) operation ≡ coding s operation
unfolding coding held_state
coding-held s (Instr m form) = rw (short-held s.above form) refl
coding-held s (Segment name) = ap (λ (fs : List Fragment). Some fs) (gap-held s.layout s.at (find_name name s.layout.starts))
coding-held s _ = refl

past_start-held : (s : State) (operation : Operation) → is_past_start (held_state s) operation ≡ is_past_start s operation
unfolding is_past_start held_state
past_start-held s (Segment name) = before-held s.at (find_name name s.layout.starts)
past_start-held s _ = refl

defined-held : (at : ℕ) (source : SourceLine) → held_definitions (defined_by (held at) source) ≡ held_definitions (defined_by at source)
unfolding defined_by
defined-held at (Assignment w n) = refl
defined-held at (PlaceAssignment w n) = let same : held (held at + n) ≡ held (at + n) = omega arith in rw same refl
defined-held at (Statement None operation) = refl
defined-held at (Statement (Some w) operation) = let same : held (held at) ≡ held at = omega arith in rw same refl

named-held : (above ds : List Definition) → is_named_in (held_definitions above) ds ≡ is_named_in above ds
named-held above [] = refl
named-held above (d ∷ ds) = rw (find_name-held d.name above, some-held (find_name d.name above), named-held above ds) refl

here-held : (at : ℕ) (offset : Option ℕ) → option_map held (option_map (λ n. held at + n) offset) ≡ option_map held (option_map (λ n. at + n) offset)
here-held at None = refl
here-held at (Some n) = let same : held (held at + n) ≡ held (at + n) = omega arith in rw same refl

place-held : (s : State) (source : SourceLine) → place_in (held_state s) source ≡ place_in s source
unfolding place_in next_of has_no_form fragments_of held_state
place-held s source =
    let same : held (held s.at + coding_len (fragments_of s source)) ≡ held (s.at + coding_len (fragments_of s source)) = omega arith in
    rw (coding-held s (operation_in source), past_start-held s (operation_in source), defined-held s.at source, named-held s.above (held_definitions (defined_by s.at source)), here-held s.at (here_offset (operation_in source)), same) refl

pub after-held : (s : State) (line : Option SourceLine) → held_after (held_state s) line ≡ held_state (after s line)
unfolding held_after after held_state place_in
after-held s None = refl
after-held s (Some source) = ap (below_place (held_state s) source) (place-held s source) ∙ rw map-append refl

-- ---- a text

pub initial-held : (layout : Layout) (start : ℕ) → start < 65536 → held_state (initial layout start) ≡ initial layout start
unfolding held_state
initial-held layout start h = let same : held start ≡ start = omega arith in rw same refl

final-held : (s : State) (ls : List (Option SourceLine)) → held_final (held_state s) ls ≡ held_state (final s ls)
unfolding held_final final
final-held s [] = refl
final-held s (l ∷ ls) = rw (after-held s l) (final-held (after s l) ls)

-- the definitions that the first pass finds
pub definitions_held : (l : Language) (layout : Layout) (start : ℕ) (text : List ℕ) → start < 65536 → (held_final (initial layout start) (readings l text)).above ≡ held_definitions (definitions_of l layout start text)
unfolding held_state definitions_of
definitions_held l layout start text h =
    ap (λ (s : State). s.above) (ap (λ (s : State). held_final s (readings l text)) (sym (initial-held layout start h)) ∙ final-held (initial layout start) (readings l text))

line-held : (all : List Definition) (n : ℕ) (s : State) (l : Option SourceLine) (rest : Result (List ℕ) AsmFault) → line_then all n (line_in (held_state s) l) rest ≡ unless n (fault_of all s l) (with_front (bytes_of all s l) rest)
unfolding fault_at bytes_at fault_of bytes_of
line-held all n s None rest = refl
line-held all n s (Some source) rest =
    by_option (fault_of all s (Some source))
    (λ k e. rw (place-held s source, fault-placed all s source, e) refl)
    (λ e. rw (place-held s source, fault-placed all s source, e, bytes-placed all s source (sym e)) refl)

coded-held : (all : List Definition) (n : ℕ) (s : State) (ls : List (Option SourceLine)) → held_coded (held_definitions all) n (held_state s) ls ≡ coded all n s ls
unfolding held_coded coded
coded-held all n s [] = refl
coded-held all n s (l ∷ ls) = line_then-held all n (line_in (held_state s) l) _ ∙ rw (after-held s l, coded-held all (n + 1) (after s l) ls) (line-held all n s l (coded all (n + 1) (after s l) ls))

pub meaning_held : (l : Language) (layout : Layout) (start : ℕ) (text : List ℕ) → start < 65536
    → held_coded (held_definitions (definitions_of l layout start text)) 1 (initial layout start) (readings l text) ≡ meaning_in l layout start text
unfolding meaning_in meaning_of definitions_of
meaning_held l layout start text h =
    ap (λ (s : State). held_coded (held_definitions (final (initial layout start) (readings l text)).above) 1 s (readings l text)) (sym (initial-held layout start h))
    ∙ coded-held (final (initial layout start) (readings l text)).above 1 (initial layout start) (readings l text)
