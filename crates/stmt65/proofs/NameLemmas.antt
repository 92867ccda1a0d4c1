-- What a line means by some definitions it means by all that agree with them on its names.
use Rattle.std.specs.Prelude.{◌≡◌, ◌+◌, ◌≤◌, ◌∷◌, ℕ, Bool, false, option_and_then, List, None, Option, Result, Some, [], is_some, length, take, true}
use Rattle.stmt65.proofs.Lemmas.{and_parts, ap, arith, nat_tests, refl, sym, ◌∙◌}
use Rattle.std.proofs.lemmas.Bool.{cases_lt}
use Rattle.std.specs.Str.{bytes_eq}
use Rattle.std.specs.List.{flat_map, list_all}
use Rattle.std.specs.Option.{option_map}
use Rattle.stmt65.specs.Words.{AreFirstOf, AsmFault, AsmFaultKind, Definition, DifferenceValue, Directive, Entry, Fill, Fixed, Fragment, LessValue, Minus, NameValue, NumberValue, Oversized, Place, Value, address_of, apart, below, bytes_at, capped, entry_in, entry_limit, fault_at, fault_with, find_name, fragment_bytes, fragment_fits, held, held_definition, held_definitions, here, is_constant, is_fragment_known, is_known, is_small, line_then, lowered, unless, value_in, with_here, word_in}
use Rattle.stmt65.specs.declared.directive.Directive.TheVariants.{Word}
use Rattle.stmt65.proofs.Cases.{by_test}

-- ---- numbers that are held in 64 bits

pub below_capped : (limit : ℕ) (o p : Option ℕ) → limit ≤ 4294967296 → capped o ≡ capped p → below limit o ≡ below limit p
below_capped limit o p h e = grind arith

pub entry_capped : (d : Directive) (o p : Option ℕ) → capped o ≡ capped p → below (entry_limit d) o ≡ below (entry_limit d) p
entry_capped Word o p e = below_capped 65536 o p (omega arith) e
entry_capped _ o p e = below_capped _ o p (omega arith) e

pub small_capped : (o p : Option ℕ) → capped o ≡ capped p → is_small o ≡ is_small p
small_capped o p e = grind (arith, nat_tests)

-- less one, or not
pub lowered_capped : (less : Minus) (n m : ℕ) → held n ≡ held m → capped (lowered less n) ≡ capped (lowered less m)
lowered_capped less n m e = grind (arith, cases_lt)

-- ---- a definition that is held

pub number-held : (less : Minus) (n : ℕ) (o : Option Definition) → capped (option_and_then (λ d. lowered less (d.value + n)) (option_map held_definition o)) ≡ capped (option_and_then (λ d. lowered less (d.value + n)) o)
number-held less n o = grind (arith, lowered_capped)

pub address-held : (o : Option Definition) → address_of (option_map held_definition o) ≡ address_of o
address-held o = grind (arith, nat_tests)

pub constant-held : (o : Option Definition) → is_constant (option_map held_definition o) ≡ is_constant o
constant-held o = grind arith

pub some-held : (o : Option Definition) → is_some (option_map held_definition o) ≡ is_some o
some-held o = grind arith

pub find_name-held : (w : List ℕ) (ds : List Definition) → find_name w (held_definitions ds) ≡ option_map held_definition (find_name w ds)
unfolding find_name
find_name-held w [] = refl
find_name-held w (d ∷ ds) = by_test (bytes_eq d.name w) (λ e. rw e refl) (λ e. rw e (find_name-held w ds))

-- ---- definitions that agree

-- each name of the first has the same definition in the others, but for what is held of its value
abbrev pub Agree : List Definition → List Definition → Type 0
Agree ds all = (w : List ℕ) → is_some (find_name w ds) ≡ true → option_map held_definition (find_name w all) ≡ option_map held_definition (find_name w ds)

held_agree : (ds : List Definition) → Agree ds (held_definitions ds)
held_agree ds w h = grind (arith, (find_name-held w ds))

agree_held : (ds : List Definition) → Agree (held_definitions ds) ds
agree_held ds w h = sym (held_agree ds w (sym (rw (find_name-held w ds) (some-held (find_name w ds))) ∙ h))

find_first : (w : List ℕ) (ds all : List Definition) → take (length ds) all ≡ ds → is_some (find_name w ds) ≡ true → find_name w all ≡ find_name w ds
unfolding find_name
find_first w [] all e h = absurd cc
find_first w (d ∷ ds) [] e h = absurd cc
find_first w (d ∷ ds) (x ∷ all) e h = grind (arith, (find_first w ds all))

pub first_agree : (ds all : List Definition) → AreFirstOf ds all → Agree ds all
first_agree ds all e w h = ap (option_map held_definition) (find_first w ds all e h)

-- what is seen of the definition of a name that has one
seen_alike : {X : Type 0} (f : Option Definition → X) (ds all : List Definition) (w : List ℕ) → ((o : Option Definition) → f (option_map held_definition o) ≡ f o) → Agree ds all → is_some (find_name w ds) ≡ true → f (find_name w all) ≡ f (find_name w ds)
seen_alike f ds all w same agree h = sym (same (find_name w all)) ∙ ap f (agree w h) ∙ same (find_name w ds)

value_alike : (ds all : List Definition) (v : Value) → Agree ds all → is_known ds v ≡ true → capped (value_in all v) ≡ capped (value_in ds v)
unfolding value_in is_known
value_alike ds all (NumberValue n) agree h = refl
value_alike ds all (NameValue w n less) agree h = seen_alike (λ o. capped (option_and_then (λ d. lowered less (d.value + n)) o)) ds all w (number-held less n) agree h
value_alike ds all (LessValue w n) agree h = ap (λ (a : Option ℕ). capped (apart a (Some n))) (seen_alike address_of ds all w address-held agree h)
value_alike ds all (DifferenceValue w v) agree h = let both = and_parts (is_some (find_name w ds)) (is_some (find_name v ds)) h in rw (seen_alike address_of ds all w address-held agree both.0, seen_alike address_of ds all v address-held agree both.1) refl

known_alike : (ds all : List Definition) (v : Value) → Agree ds all → is_known ds v ≡ true → is_known all v ≡ true
unfolding is_known
known_alike ds all (NumberValue n) agree h = refl
known_alike ds all (NameValue w n less) agree h = seen_alike is_some ds all w some-held agree h ∙ h
known_alike ds all (LessValue w n) agree h = seen_alike is_some ds all w some-held agree h ∙ h
known_alike ds all (DifferenceValue w v) agree h = let both = and_parts (is_some (find_name w ds)) (is_some (find_name v ds)) h in rw (seen_alike is_some ds all w some-held agree both.0, seen_alike is_some ds all v some-held agree both.1) h

-- the same with `*`
here_agree : (here : Option ℕ) (ds all : List Definition) → Agree ds all → Agree (with_here here ds) (with_here here all)
unfolding find_name
here_agree None ds all agree w h = agree w h
here_agree (Some at) ds all agree w h = by_test (bytes_eq here w) (λ e. rw e refl) (λ e. rw e (agree w (rw e at h)))

-- `*` as it is held
pub held_here : (at : Option ℕ) (all : List Definition) → Agree (with_here at all) (with_here (option_map held at) all)
unfolding find_name
held_here None all w h = refl
held_here (Some at) all w h = let same : held (held at) ≡ held at = omega arith in by_test (bytes_eq here w) (λ e. rw (e, same) refl) (λ e. rw e refl)

pub here_held : (at : Option ℕ) (all : List Definition) → Agree (with_here (option_map held at) all) (with_here at all)
unfolding find_name
here_held None all w h = refl
here_held (Some at) all w h = let same : held (held at) ≡ held at = omega arith in by_test (bytes_eq here w) (λ e. rw (e, same) refl) (λ e. rw e refl)

-- ---- fragments

word_alike : (ds all : List Definition) (v : Value) → Agree ds all → is_known ds v ≡ true → word_in all v ≡ word_in ds v
unfolding word_in
word_alike ds all v agree h = below_capped 65536 _ _ (omega arith) (value_alike ds all v agree h)

entry_alike : (ds all : List Definition) (d : Directive) (v : Value) → Agree ds all → is_known ds v ≡ true → entry_in all d v ≡ entry_in ds d v
unfolding entry_in
entry_alike ds all d v agree h = entry_capped d _ _ (value_alike ds all v agree h)

-- a fragment that is known in both, and is the same
fragment_alike : (ds all : List Definition) (next : ℕ) (f : Fragment) → Agree ds all → is_fragment_known ds f ≡ true
    → (is_fragment_known all f ≡ true) × (fragment_fits all next f ≡ fragment_fits ds next f) × (fragment_bytes all next f ≡ fragment_bytes ds next f)
unfolding fragment_fits fragment_bytes
fragment_alike ds all next (Fixed b) agree h = (refl, refl, refl)
fragment_alike ds all next (Fill n b) agree h = (refl, refl, refl)
fragment_alike ds all next (Oversized v) agree h = (known_alike ds all v agree h, refl, rw (word_alike ds all v agree h) refl)
fragment_alike ds all next (Entry d v) agree h = (known_alike ds all v agree h, rw (entry_alike ds all d v agree h) refl, rw (entry_alike ds all d v agree h) refl)
fragment_alike ds all next _ agree h = (known_alike ds all _ agree h, rw (word_alike ds all _ agree h) refl, rw (word_alike ds all _ agree h) refl)

-- the same of fragments
pub record Alike (ds all : List Definition) (next : ℕ) (fs : List Fragment) : Type 0 where
  pub known : list_all (is_fragment_known all) fs ≡ true
  pub fits : list_all (fragment_fits all next) fs ≡ list_all (fragment_fits ds next) fs
  pub bytes : flat_map (fragment_bytes all next) fs ≡ flat_map (fragment_bytes ds next) fs

alike : (ds all : List Definition) (next : ℕ) (fs : List Fragment) → Agree ds all → list_all (is_fragment_known ds) fs ≡ true → Alike ds all next fs
alike ds all next [] agree h = record { known = refl; fits = refl; bytes = refl }
alike ds all next (f ∷ fs) agree h =
    let both = and_parts (is_fragment_known ds f) (list_all (is_fragment_known ds) fs) h in
    let one = fragment_alike ds all next f agree both.0 in
    let rest = alike ds all next fs agree both.1 in
    record { known = rw (one.0, rest.known) refl; fits = rw (one.1, rest.fits) refl; bytes = rw (one.2, rest.bytes) refl }

-- ---- lines

abbrev pub knows : List Definition → Place → Bool
knows all p = list_all (is_fragment_known (with_here p.here all)) p.fragments

pub fault_alike : (ds all : List Definition) (p : Place) → Agree ds all → knows ds p ≡ true → fault_at all (Some p) ≡ fault_at ds (Some p)
unfolding fault_at
fault_alike ds all p agree h = let same = alike _ _ p.next p.fragments (here_agree p.here ds all agree) h in rw (same.known, same.fits, h) refl

pub bytes_alike : (ds all : List Definition) (p : Place) → Agree ds all → knows ds p ≡ true → bytes_at all (Some p) ≡ bytes_at ds (Some p)
unfolding bytes_at
bytes_alike ds all p agree h = (alike _ _ p.next p.fragments (here_agree p.here ds all agree) h).bytes

pub unless_any : (n : ℕ) (fault : Option AsmFaultKind) (a b : Result (List ℕ) AsmFault) → is_some fault ≡ true → unless n fault a ≡ unless n fault b
unless_any n None a b h = absurd cc
unless_any n (Some kind) a b h = refl

-- a line with a name that has no definition has a fault, which no value and no address changes
fault_unknown : (ds all : List Definition) (p : Place) → list_all (is_fragment_known ds) p.fragments ≡ false → list_all (is_fragment_known all) p.fragments ≡ false → (fault_with all p ≡ fault_with ds p) × (is_some (fault_with ds p) ≡ true)
fault_unknown ds all p e g = grind arith

-- by definitions that agree both ways a line has the same fault, and the same bytes if it has none
pub same_fault : (ds all : List Definition) (p : Place) → Agree ds all → Agree all ds → fault_with all p ≡ fault_with ds p
same_fault ds all p agree back =
    by_test (list_all (is_fragment_known ds) p.fragments)
    (λ e. let same = alike ds all p.next p.fragments agree e in rw (same.known, same.fits, e) refl)
    (λ e. by_test (list_all (is_fragment_known all) p.fragments)
    (λ g. absurd (let h = (alike all ds p.next p.fragments back g).known in cc))
    (λ g. (fault_unknown ds all p e g).0))

-- what comes of a line by the definitions that are held
pub line_then-held : (all : List Definition) (n : ℕ) (line : Option Place) (rest : Result (List ℕ) AsmFault) → line_then (held_definitions all) n line rest ≡ line_then all n line rest
unfolding fault_at bytes_at
line_then-held all n None rest = refl
line_then-held all n (Some p) rest =
    by_test (knows all p)
    (λ e. rw (fault_alike all (held_definitions all) p (held_agree all) e, bytes_alike all (held_definitions all) p (held_agree all) e) refl)
    (λ e. by_test (knows (held_definitions all) p)
    (λ g. absurd (let h = (alike _ _ p.next p.fragments (here_agree p.here (held_definitions all) all (agree_held all)) g).known in cc))
    (λ g. let same = fault_unknown (with_here p.here all) (with_here p.here (held_definitions all)) p e g in rw same.0 (unless_any n _ _ _ same.1)))
