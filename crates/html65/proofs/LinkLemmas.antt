-- What stands in a tag and in a page, step by step, and the numbers of ids.
use Rattle.std.proofs.Common.{◌≡◌, ◌+◌, ◌-◌, ◌<◌, ℕ, Bor, List, [], ◌∷◌, None, Some, drop, length, take, true, false, refl, sym, ap, arith, ◌∙◌, get_or, min, suc, zero, ◌≢◌, ◌++◌, ◌≤◌, append_assoc, Option, option_to_list, inl, inr}
use Rattle.std.specs.Prelude.{codes, nat_eq, nat_le, set}
use Rattle.std.specs.List.{filter_map, prefix_len, starts_with}
use Rattle.std.specs.Str.{bytes_eq}
use Rattle.std.proofs.lemmas.Slice.Eq.{bytes_eq-Decides}
use Rattle.std.proofs.lemmas.Bool.{and_parts, eq-eqb, false_from_ne_true, leb-true, ne_eqb}
use Rattle.std.proofs.lemmas.Bool.{cases_eq}
use Rattle.std.proofs.lemmas.Bool.Decides.{eqb_tells}
use Rattle.std.proofs.lemmas.List.{append-nil, get_or-set_other, get_or-set_same, length-set, length-take, take-append-drop, take_rest}
use Rattle.html65.specs.Links.{are_ascending, count_in, is_found, kind_of, number_in, quoted_after, texts}
use Rattle.html65.specs.PageText.{after_tag, kept, text_from}
use Rattle.html65.specs.Pieces.{Piece, Tag, Text, is_other}
use Rattle.html65.specs.declared.faults.Region.{Region}

pub quoted_none : (key tag : List ℕ) → length tag ≡ 0 → None ≡ quoted_after key tag
unfolding quoted_after
quoted_none key [] none = refl
quoted_none key (b ∷ bs) none = absurd (omega arith)

pub quoted_here : (first : ℕ) (more tag found : List ℕ) (len : ℕ) → 0 < length tag → get_or tag 0 0 ≡ first → starts_with nat_eq (take (length tag - 1) (drop 1 tag)) more ≡ true
    → found ≡ take (length tag - (1 + length more)) (drop (1 + length more) tag) → len ≡ prefix_len (is_other 34) found → Some (take len found) ≡ quoted_after (first ∷ more) tag
unfolding quoted_after
quoted_here first more [] found len some is starts e f = absurd (omega arith)
quoted_here first more (b ∷ bs) found len some is starts e f =
    let starts' = rw take_rest at starts in
    let one : (1 + length more) ≡ suc (length more) = omega arith in
    rw (f, e, take_rest, ← is, eq-eqb b b refl, starts', one) refl

pub quoted_other : (first : ℕ) (more tag : List ℕ) → 0 < length tag → get_or tag 0 0 ≢ first → quoted_after (first ∷ more) tag ≡ quoted_after (first ∷ more) (take (length tag - 1) (drop 1 tag))
unfolding quoted_after
quoted_other first more [] some differs = absurd (omega arith)
quoted_other first more (b ∷ bs) some differs = rw (ne_eqb first b (λ same. differs (sym same)), take_rest) refl

pub quoted_later : (first : ℕ) (more tag : List ℕ) → 0 < length tag → get_or tag 0 0 ≡ first → starts_with nat_eq (take (length tag - 1) (drop 1 tag)) more ≡ false
    → quoted_after (first ∷ more) tag ≡ quoted_after (first ∷ more) (take (length tag - 1) (drop 1 tag))
unfolding quoted_after
quoted_later first more [] some is starts = absurd (omega arith)
quoted_later first more (b ∷ bs) some is starts =
    let starts' = rw take_rest at starts in
    rw (is, eq-eqb first first refl, starts', take_rest) refl

blank_first : (more tag : List ℕ) → quoted_after (32 ∷ more) (drop (prefix_len (is_other 32) tag) tag) ≡ quoted_after (32 ∷ more) tag
unfolding quoted_after
blank_first more [] = refl
blank_first more (b ∷ bs) = elim (eqb_tells b 32) [
  | inl is ↦ rw is.0 refl
  | inr other ↦
      let one : 1 + prefix_len (is_other 32) bs ≡ suc (prefix_len (is_other 32) bs) = omega arith in
      rw (other.0, ne_eqb 32 b (λ same. other.1 (sym same)), one) (blank_first more bs)
]

-- nothing is found before the first blank
pub quoted_from_blank : (more tag : List ℕ) (len : ℕ) → len ≡ prefix_len (is_other 32) tag → quoted_after (32 ∷ more) (take (length tag - len) (drop len tag)) ≡ quoted_after (32 ∷ more) tag
quoted_from_blank more tag len is = rw (take_rest, is) (blank_first more tag)

no_room : (key tag : List ℕ) → length tag < length key → starts_with nat_eq tag key ≡ true → ⊥
no_room key tag short is =
    let same : key ≡ take (length key) tag = (bytes_eq-Decides key (take (length key) tag)).0 is in
    let len : length key ≡ min (length key) (length tag) = ap length same ∙ length-take (length key) tag in
    omega arith

-- nothing is found in what is shorter than what is looked for
pub quoted_short : (key tag : List ℕ) → length tag < length key → quoted_after key tag ≡ None
unfolding quoted_after
quoted_short key [] short = refl
quoted_short key (b ∷ bs) short =
    let other : starts_with nat_eq (b ∷ bs) key ≡ false = false_from_ne_true _ (no_room key (b ∷ bs) short) in
    rw other (quoted_short key bs (omega arith))

pub no_id : (tag : List ℕ) → length tag < 5 → quoted_after (codes " id=\"") tag ≡ None
no_id tag short = quoted_short (codes " id=\"") tag short

pub no_target : (tag : List ℕ) → length tag < 5 → quoted_after (codes " href=\"#") tag ≡ None
no_target tag short = quoted_short (codes " href=\"#") tag (omega arith)

pub ruleset quoted_steps = (quoted_none, quoted_here, quoted_other, quoted_later, quoted_from_blank)

-- ---- what is taken down of the pieces

taken_by : (f : Piece → Option (List ℕ)) (o : Option (List ℕ)) (taken new : List (List ℕ)) (left rest : List Piece) (p : Piece) (whole : List (List ℕ)) → f p ≡ o → left ≡ p ∷ rest
    → new ≡ taken ++ option_to_list o → taken ++ filter_map f left ≡ whole → new ++ filter_map f rest ≡ whole
taken_by f None taken new left rest p whole same step is before = rw (is, append-nil) (rw (step, same) at before)
taken_by f (Some id) taken new left rest p whole same step is before = rw (is, append_assoc) (rw (step, same) at before)

-- a piece, and what is left
pub taken_more : (f : Piece → Option (List ℕ)) (taken new : List (List ℕ)) (left rest : List Piece) (p : Piece) (whole : List (List ℕ)) → left ≡ p ∷ rest
    → new ≡ taken ++ option_to_list (f p) → taken ++ filter_map f left ≡ whole → new ++ filter_map f rest ≡ whole
taken_more f taken new left rest p whole step is before = taken_by f (f p) taken new left rest p whole refl step is before

-- no piece is left
pub taken_whole : (f : Piece → Option (List ℕ)) (taken : List (List ℕ)) (left : List Piece) (whole : List (List ℕ)) → left ≡ [] → taken ++ filter_map f left ≡ whole → taken ≡ whole
taken_whole f taken left whole none is = rw (none, append-nil) at is

-- ---- the text of the pieces

pub tag_passed : (place behind : Region) (tag left : List ℕ) (rest : List Piece) → behind ≡ after_tag place tag → text_from behind rest ≡ left → text_from place (Tag tag ∷ rest) ≡ left
unfolding text_from
tag_passed place behind tag left rest is same = rw is at same

pub text_passed : (place : Region) (text left left' : List ℕ) (rest : List Piece) → left ≡ kept place text ++ left' → text_from place rest ≡ left' → text_from place (Text text ∷ rest) ≡ left
unfolding text_from
text_passed place text left left' rest is same = rw (is, same) refl

-- a piece, and what is left
pub passed_on : (place behind : Region) (left left' listing whole : List ℕ) (p : Piece) (ps rest : List Piece) → ps ≡ p ∷ rest
    → ((more : List Piece) → text_from behind more ≡ left' → text_from place (p ∷ more) ≡ left) → (text_from place ps ≡ left → whole ≡ listing) → text_from behind rest ≡ left' → whole ≡ listing
passed_on place behind left left' listing whole p ps rest step passes before same = before (rw step (passes rest same))

-- a text that begins the listing, and what is left of that
pub begun : (left text : List ℕ) → starts_with nat_eq left text ≡ true → left ≡ text ++ take (length left - length text) (drop (length text) left)
begun left text is =
    let same : text ≡ take (length text) left = (bytes_eq-Decides text (take (length text) left)).0 is in
    rw take_rest (sym (rw (← same) at (take-append-drop (length text) left)))

-- no piece is left
pub passed_whole : (place : Region) (left listing whole : List ℕ) (ps : List Piece) → ps ≡ [] → length left ≡ 0 → (text_from place ps ≡ left → whole ≡ listing) → whole ≡ listing
unfolding text_from
passed_whole place [] listing whole ps none empty before = before (rw none refl)
passed_whole place (b ∷ bs) listing whole ps none empty before = absurd (omega arith)

pub ruleset read_back = (taken_more, taken_whole, passed_on, passed_whole)

-- ---- the numbers of ids

-- the least numbers after an id
abbrev next_least : List ℕ → List ℕ → List ℕ
next_least least id = set least (kind_of id) (number_in id + 1)

-- the number after that of an id is the least of its kind then
here_above : (x least : List ℕ) → length least ≡ 4 → number_in x < get_or (next_least least x) (kind_of x) 0
here_above x least four =
    let e = get_or-set_same least (kind_of x) (number_in x + 1) 0 (omega arith) in
    rw e (omega arith)

-- that of another kind stays
other_kind : (id x least : List ℕ) → kind_of id ≢ kind_of x → get_or (next_least least x) (kind_of id) 0 ≡ get_or least (kind_of id) 0
other_kind id x least apart = get_or-set_other least (kind_of x) (kind_of id) (number_in x + 1) 0 apart

same_kind : (id x least : List ℕ) → length least ≡ 4 → kind_of id ≡ kind_of x → get_or (next_least least x) (kind_of id) 0 ≡ number_in x + 1
same_kind id x least four same = rw same (get_or-set_same least (kind_of x) (number_in x + 1) 0 (omega arith))

below_itself : (id x least : List ℕ) → id ≡ x → number_in id < get_or least (kind_of id) 0 → get_or least (kind_of x) 0 ≤ number_in x → ⊥
below_itself id x least same lt le = let lt' = rw same at lt in omega arith

still_below : (id x least : List ℕ) → length least ≡ 4 → number_in id < get_or least (kind_of id) 0 → get_or least (kind_of x) 0 ≤ number_in x → number_in id < get_or (next_least least x) (kind_of id) 0
still_below id x least four lt le = elim (cases_eq (kind_of id) (kind_of x)) [
  | inl same ↦ let lt' = rw same at lt in rw (same_kind id x least four same) (omega arith)
  | inr other ↦ rw (other_kind id x least other) lt
]

above_itself : (id x least : List ℕ) → length least ≡ 4 → id ≡ x → get_or (next_least least x) (kind_of id) 0 ≤ number_in id → ⊥
above_itself id x least four same le =
    let le' = rw same at le in
    let e = here_above x least four in
    omega arith

least_before : (id x least : List ℕ) → length least ≡ 4 → get_or least (kind_of x) 0 ≤ number_in x → get_or (next_least least x) (kind_of id) 0 ≤ number_in id → get_or least (kind_of id) 0 ≤ number_in id
least_before id x least four le more = elim (cases_eq (kind_of id) (kind_of x)) [
  | inl same ↦ let more' = rw (same_kind id x least four same) at more in rw same (omega arith)
  | inr other ↦ rw (other_kind id x least other) at more
]

-- an id of a number below the least of its kind is not among them
lower : (id least : List ℕ) (ids : List (List ℕ)) → length least ≡ 4 → are_ascending least ids ≡ true → number_in id < get_or least (kind_of id) 0 → count_in id ids ≡ 0
unfolding are_ascending count_in
lower id least [] four are lt = refl
lower id least (x ∷ xs) four are lt =
    let both = and_parts (nat_le (get_or least (kind_of x) 0) (number_in x)) (are_ascending (next_least least x) xs) are in
    let le : get_or least (kind_of x) 0 ≤ number_in x = leb-true _ _ both.0 in
    let apart : bytes_eq id x ≡ false = false_from_ne_true _ (λ is. below_itself id x least ((bytes_eq-Decides id x).0 is) lt le) in
    let later : number_in id < get_or (next_least least x) (kind_of id) 0 = still_below id x least four lt le in
    rw (apart, lower id (next_least least x) xs (length-set _ _ _ ∙ four) both.1 later) refl

-- an id is among them once, and its number is at least the least of its kind
once : (id least : List ℕ) (i : ℕ) (ids : List (Bor (List ℕ))) (d : Bor (List ℕ)) → length least ≡ 4 → are_ascending least (texts ids) ≡ true → i < length ids → (get_or ids i d).now ≡ id
    → (count_in id (texts ids) ≡ 1) × (get_or least (kind_of id) 0 ≤ number_in id)
unfolding are_ascending count_in
once id least i [] d four are lt is = absurd (omega arith)
once id least zero (x ∷ xs) d four are lt is =
    let both = and_parts (nat_le (get_or least (kind_of x.now) 0) (number_in x.now)) (are_ascending (next_least least x.now) (texts xs)) are in
    let le : get_or least (kind_of x.now) 0 ≤ number_in x.now = leb-true _ _ both.0 in
    let le' : get_or least (kind_of id) 0 ≤ number_in id = rw is at le in
    let same : bytes_eq id x.now ≡ true = (bytes_eq-Decides id x.now).1 (sym is) in
    let above : number_in id < get_or (next_least least x.now) (kind_of id) 0 = rw (← is) (here_above x.now least four) in
    (rw (same, lower id (next_least least x.now) (texts xs) (length-set _ _ _ ∙ four) both.1 above) refl, le')
once id least (suc i) (x ∷ xs) d four are lt is =
    let both = and_parts (nat_le (get_or least (kind_of x.now) 0) (number_in x.now)) (are_ascending (next_least least x.now) (texts xs)) are in
    let le : get_or least (kind_of x.now) 0 ≤ number_in x.now = leb-true _ _ both.0 in
    let more = once id (next_least least x.now) i xs d (length-set _ _ _ ∙ four) both.1 (omega arith) is in
    let apart : bytes_eq id x.now ≡ false = false_from_ne_true _ (λ same. above_itself id x.now least four ((bytes_eq-Decides id x.now).0 same) more.1) in
    (rw (apart, more.0) refl, least_before id x.now least four le more.1)

pub one_is_found : (ids : List (Bor (List ℕ))) (id : List ℕ) (i : ℕ) (d : Bor (List ℕ)) → are_ascending (0 ∷ 0 ∷ 0 ∷ 0 ∷ []) (texts ids) ≡ true → i < length ids
    → bytes_eq (get_or ids i d).now id ≡ true → is_found (texts ids) id ≡ true
one_is_found ids id i d are lt same = rw (once id (0 ∷ 0 ∷ 0 ∷ 0 ∷ []) i ids d refl are lt ((bytes_eq-Decides (get_or ids i d).now id).0 same)).0 refl
