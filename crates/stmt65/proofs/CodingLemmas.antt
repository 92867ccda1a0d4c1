-- How long codings are, and the bytes that they add.
use Rattle.std.proofs.Common.{◌≡◌, ℕ, Bool, true, false, ◌+◌, ◌*◌, List, [], ◌∷◌, ◌++◌, length, map, take, get_or, ◌<◌, Option, refl, ap, sym, append_assoc, arith}
use Rattle.std.specs.Prelude.{◌&&◌, is_some}
use Rattle.std.proofs.Math.Bool.{and-true}
use Rattle.std.proofs.Math.Seq.{take-append_seam, take-length}
use Rattle.std.proofs.lemmas.List.{append-nil, map-append, take_more}
use Rattle.std.proofs.lemmas.List.Folds.{list_all-append}
use Rattle.std.proofs.lemmas.Grind.{flat_map-append}
use Rattle.stmt65.specs.Words.{Definition, DifferenceValue, Directive, Distance, Entry, Fit, Fixed, Fragment, NumberValue, Puts, PutsAll, Value, address_of, apart, below, coding_len, data_fragments, datum_fragments, datum_of, entry_bytes, entry_fragments, entry_in, entry_limit, find_name, fragment_bytes, fragment_fits, fragment_len, held, is_fragment_known, is_known, is_near, value_in, value_of, word_in}
use Rattle.stmt65.specs.declared.source_line.Value.{Value as CodeValue}
use Rattle.stmt65.specs.declared.source_line.Datum.{Datum as CodeDatum}
use Rattle.std.specs.List.{list_all, flat_map}
use Rattle.std.proofs.Math.Nat.{suc-mul, zero-mul}
use Rattle.stmt65.proofs.Cases.{by_option}

-- ---- lengths

pub coding_len_append : (fs gs : List Fragment) → coding_len (fs ++ gs) ≡ coding_len fs + coding_len gs
unfolding coding_len
coding_len_append [] gs = omega arith
coding_len_append (f ∷ fs) gs = let ih = coding_len_append fs gs in omega arith

pub text_len : (bs : List ℕ) → coding_len (map Fixed bs) ≡ length bs
unfolding coding_len
text_len [] = refl
text_len (b ∷ bs) = let ih = text_len bs in omega arith

-- an opcode, and its operand
pub instruction_len-none : (b : ℕ) → 1 ≡ held (coding_len (Fixed b ∷ []))
unfolding coding_len
instruction_len-none b = refl

pub instruction_len-one : (b : ℕ) (f : Fragment) (n len : ℕ) → n ≡ held (fragment_len f) → len ≡ held (n + 1) → len ≡ held (coding_len (Fixed b ∷ f ∷ []))
unfolding coding_len
instruction_len-one b f n len e h = omega (arith, e, h)

pub instruction_len-two : (b : ℕ) (f g : Fragment) (m k n len : ℕ) → m ≡ held (fragment_len f) → k ≡ held (fragment_len g) → n ≡ held (m + k) → len ≡ held (n + 1) → len ≡ held (coding_len (Fixed b ∷ f ∷ g ∷ []))
unfolding coding_len
instruction_len-two b f g m k n len e h s t = omega (arith, e, h, s, t)

pub ruleset instruction_lens = (instruction_len-none, instruction_len-one, instruction_len-two)

-- the entries of a directive are alike
pub entries_len : (d : Directive) (vs : List CodeValue) → coding_len (entry_fragments d vs) ≡ length vs * length (entry_bytes d 0)
unfolding coding_len
entries_len d [] = sym (zero-mul (length (entry_bytes d 0)))
entries_len d (v ∷ vs) = let ih = entries_len d vs in rw (suc-mul (length vs) (length (entry_bytes d 0))) (omega (arith, ih))

-- one more operand of `.byte`, or number
pub data_more : (ds : List CodeDatum) (i : ℕ) (d : CodeDatum) → i < length ds → data_fragments (take (i + 1) ds) ≡ data_fragments (take i ds) ++ datum_fragments (datum_of (get_or ds i d))
data_more ds i d h = rw (take_more ds i d h, map-append, flat_map-append, append-nil) refl

pub entries_more : (d : Directive) (vs : List CodeValue) (i : ℕ) (v : CodeValue) → i < length vs → entry_fragments d (take (i + 1) vs) ≡ entry_fragments d (take i vs) ++ Entry d (value_of (get_or vs i v)) ∷ []
entries_more d vs i v h = rw (take_more vs i v h, map-append, map-append) refl

pub data_step : (ds : List CodeDatum) (i len more new : ℕ) (d : CodeDatum) → i < length ds → len ≡ held (coding_len (data_fragments (take i ds))) → more ≡ held (coding_len (datum_fragments (datum_of (get_or ds i d)))) → new ≡ held (len + more)
    → new ≡ held (coding_len (data_fragments (take (i + 1) ds)))
data_step ds i len more new d h e f g = rw (data_more ds i d h, coding_len_append) (omega (arith, e, f, g))

-- ---- tests of each fragment

-- an expression that has a value, a small one or one near an address, has names that are defined
below_some : (limit : ℕ) (o : Option ℕ) → is_some (below limit o) ≡ true → is_some o ≡ true
below_some limit o h = grind arith

near_some : (next : ℕ) (o : Option ℕ) → is_near next o ≡ true → is_some o ≡ true
near_some next o h = grind arith

-- two names of which both have an address
apart_known : (a b : Option Definition) → is_some (apart (address_of a) (address_of b)) ≡ true → (is_some a && is_some b) ≡ true
apart_known a b h = grind arith

value_known : (all : List Definition) (v : Value) → is_some (value_in all v) ≡ true → is_known all v ≡ true
unfolding value_in is_known
value_known all (NumberValue n) h = refl
value_known all (DifferenceValue w v) h = apart_known (find_name w all) (find_name v all) h
value_known all _ h = grind (arith, by_option)

word_known : (all : List Definition) (v : Value) → is_some (word_in all v) ≡ true → is_known all v ≡ true
unfolding word_in
word_known all v h = value_known all v (below_some 65536 (value_in all v) h)

fragment_known : (all : List Definition) (next : ℕ) (f : Fragment) → fragment_fits all next f ≡ true → is_fragment_known all f ≡ true
unfolding fragment_fits entry_in
fragment_known all next (Entry d v) h = value_known all v (below_some (entry_limit d) (value_in all v) h)
fragment_known all next (Distance v) h = word_known all v (near_some next (word_in all v) h)
fragment_known all next _ h = grind (arith, word_known, below_some)

pub string_known : (all : List Definition) (bs : List ℕ) → list_all (is_fragment_known all) (map Fixed bs) ≡ true
string_known all [] = refl
string_known all (b ∷ bs) = string_known all bs

pub string_fits : (all : List Definition) (next : ℕ) (bs : List ℕ) → list_all (fragment_fits all next) (map Fixed bs) ≡ true
unfolding fragment_fits
string_fits all next [] = refl
string_fits all next (b ∷ bs) = string_fits all next bs

-- ---- bytes

pub string_bytes : (all : List Definition) (next : ℕ) (bs : List ℕ) → flat_map (fragment_bytes all next) (map Fixed bs) ≡ bs
unfolding fragment_bytes
string_bytes all next [] = refl
string_bytes all next (b ∷ bs) = ap (λ (l : List ℕ). b ∷ l) (string_bytes all next bs)

-- what is added to what stands there
abbrev fits : Fit
fits = record { is_known = true; has_room = true }

pub fits_put : (all : List Definition) (next : ℕ) (f : Fragment) (answer : Bool) (old new : List ℕ) → Puts answer (fragment_fits all next f) (fragment_bytes all next f) old new → answer ≡ true → PutsAll fits all next (f ∷ []) old new
fits_put all next f answer old new puts here = grind (arith, fragment_known, and-true, append-nil, take-append_seam)

pub misses_put : (all : List Definition) (next : ℕ) (f : Fragment) (fit : Fit) (answer : Bool) (old new : List ℕ) → Puts answer (fragment_fits all next f) (fragment_bytes all next f) old new → answer ≡ false → fit.is_known ≡ is_fragment_known all f → fit.has_room ≡ false
    → PutsAll fit all next (f ∷ []) old new
misses_put all next f fit answer old new puts here known room = grind (arith, and-true, take-length)

pub text_put : (all : List Definition) (next : ℕ) (bs old new : List ℕ) → new ≡ old ++ bs → PutsAll fits all next (map Fixed bs) old new
text_put all next bs old new e = grind (arith, (string_known all bs), (string_fits all next bs), (string_bytes all next bs), take-append_seam)

pub nothing_put : (all : List Definition) (next : ℕ) (fit : Fit) (old : List ℕ) → fit.is_known ≡ true → fit.has_room ≡ true → PutsAll fit all next [] old old
nothing_put all next fit old known room = grind (arith, append-nil, take-length)

pub front_kept : {A : Type 0} (old mid new : List A) → take (length old) mid ≡ old → take (length mid) new ≡ mid → take (length old) new ≡ old
front_kept [] mid new h g = refl
front_kept (x ∷ old) [] new h g = absurd cc
front_kept (x ∷ old) (y ∷ mid) [] h g = absurd cc
front_kept (x ∷ old) (y ∷ mid) (z ∷ new) h g = grind (arith, (front_kept old mid new))

pub more_put : (all : List Definition) (next : ℕ) (fs gs : List Fragment) (one other fit : Fit) (old mid new : List ℕ) → PutsAll one all next fs old mid → PutsAll other all next gs mid new
    → fit.is_known ≡ (one.is_known && other.is_known) → fit.has_room ≡ (one.has_room && other.has_room) → PutsAll fit all next (fs ++ gs) old new
more_put all next fs gs one other fit old mid new p q known room = grind (arith, list_all-append, flat_map-append, append_assoc, front_kept)

pub opcode_put : (all : List Definition) (next b : ℕ) (fs : List Fragment) (fit : Fit) (old with_opcode new : List ℕ) → with_opcode ≡ old ++ b ∷ [] → PutsAll fit all next fs with_opcode new → PutsAll fit all next (Fixed b ∷ fs) old new
unfolding fragment_fits fragment_bytes
opcode_put all next b fs fit old with_opcode new e puts = grind (arith, append_assoc, (front_kept old with_opcode new), (take-append_seam old (b ∷ [])))

pub ruleset data_put = (more_put, nothing_put, data_more)

pub ruleset entries_put = (more_put, nothing_put, entries_more)
