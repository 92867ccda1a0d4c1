-- Looking for a name among entries by address.
use Rattle.std.proofs.Common.{◌≡◌, ◌∙◌, ℕ, zero, suc, ◌+◌, ◌-◌, ◌<◌, ◌≤◌, ◌&&◌, Bool, true, false, List, [], length, get_or, map, refl, if◌then◌else◌, ap, sym, append_assoc, ap₂, arith, add-one, length-append, length-drop, option_map, take, ◌∷◌, ◌++◌}
use Rattle.std.specs.Prelude.{IfSome, Option, None, Some, nat_le, nat_lt}
use Rattle.std.specs.List.Sorted.{IsNonDecreasingBy}
use Rattle.std.proofs.lemmas.List.Sorted.{IsNonDecreasingBy-from_default}
use Rattle.std.proofs.lemmas.List.{append-nil, drop-append-le, drop_at, get_or-map, length-map, map-append, take-append-le, take_at}
use Rattle.std.proofs.lemmas.Bool.Decides.{nat_tests}
use Rattle.info65.specs.Words.{AreAbove, AreNames, IsPool, IsWithin, NameView, ReachTo, Span, blank_entry, blank_name, block_start, bytes_of, covering, covering_below, covers, entry_seen, name_at, optional, reach_of, span_of}
use Rattle.info65.specs.declared.information.pool.Entry.{Entry}

pub seen_at : (pool : List ℕ) (es : List Entry) (i : ℕ) (d : Entry) → i < length es → name_at (map (entry_seen pool) es) i ≡ entry_seen pool (get_or es i d)
seen_at pool es i d below = get_or-map (entry_seen pool) es i d blank_name below

below_suc : (names : List NameView) (i a : ℕ) → covering_below names (i + 1) a ≡ (if covers (name_at names i) a then Some (name_at names i) else covering_below names i a)
unfolding covering_below
below_suc names i a = rw add-one refl

pub below_hit : (names : List NameView) (n i a : ℕ) (v : NameView) → n ≡ i + 1 → name_at names i ≡ v → covers v a ≡ true → covering_below names n a ≡ Some v
below_hit names n i a v is at hit = rw is (below_suc names i a ∙ rw (at, hit) refl)

pub below_miss : (names : List NameView) (n i a : ℕ) (v : NameView) → n ≡ i + 1 → name_at names i ≡ v → covers v a ≡ false → covering_below names n a ≡ covering_below names i a
below_miss names n i a v is at miss = rw is (below_suc names i a ∙ rw (at, miss) refl)

pub below_none : (names : List NameView) (n a : ℕ) → n ≡ 0 → covering_below names n a ≡ None
unfolding covering_below
below_none names n a is = rw is refl

covering_all : (pool : List ℕ) (es : List Entry) (n a : ℕ) → n ≡ length es → covering_below (map (entry_seen pool) es) n a ≡ covering (map (entry_seen pool) es) a
unfolding covering
covering_all pool es n a is = ap (λ m. covering_below (map (entry_seen pool) es) m a) (is ∙ sym (length-map es (entry_seen pool)))

-- ---- where to begin

-- names ascend, and so do the entries
pub entries_rise : (pool : List ℕ) (es : List Entry) → AreNames (map (entry_seen pool) es) → IsNonDecreasingBy (λ e. e.address) es
entries_rise pool es names = IsNonDecreasingBy-from_default (λ e. e.address) es blank_entry (λ i j le high.
    grind (arith, length-map es (entry_seen pool), seen_at pool es i blank_entry, seen_at pool es j blank_entry, names.rising i j blank_name))

missed : (x y : Bool) → x ≡ false → (x && y) ≡ false
missed x y is = grind arith

below_rest : (pool : List ℕ) (es : List Entry) (n a d : ℕ) → AreAbove es n a → n + d ≤ length es → covering_below (map (entry_seen pool) es) (n + d) a ≡ covering_below (map (entry_seen pool) es) n a
below_rest pool es n a zero above le = let place : n + 0 ≡ n = omega arith in ap (λ (k : ℕ). covering_below (map (entry_seen pool) es) k a) place
below_rest pool es n a (suc d) above le =
    let v : NameView = entry_seen pool (get_or es (n + d) blank_entry) in
    let late = above.each (n + d) (omega arith) (omega arith) in
    let early : nat_le v.address a ≡ false = grind (arith, nat_tests) in
    below_miss (map (entry_seen pool) es) (n + suc d) (n + d) a v (omega arith) (seen_at pool es (n + d) blank_entry (omega arith)) (missed (nat_le v.address a) (nat_lt a (v.address + v.size)) early)
    ∙ below_rest pool es n a d above (omega arith)

pub covering_rest : (pool : List ℕ) (es : List Entry) (n a : ℕ) → AreAbove es n a → n ≤ length es → covering_below (map (entry_seen pool) es) n a ≡ covering (map (entry_seen pool) es) a
covering_rest pool es n a above le =
    let place : n + (length es - n) ≡ length es = omega arith in
    sym (below_rest pool es n a (length es - n) above (omega arith)) ∙ covering_all pool es (n + (length es - n)) a place

-- ---- entries that are passed over

below_skip : (names : List NameView) (n a d : ℕ) → ((i : ℕ) → n ≤ i → i < n + d → covers (name_at names i) a ≡ false) → covering_below names (n + d) a ≡ covering_below names n a
below_skip names n a zero miss = let place : n + 0 ≡ n = omega arith in ap (λ (k : ℕ). covering_below names k a) place
below_skip names n a (suc d) miss =
    below_miss names (n + suc d) (n + d) a (name_at names (n + d)) (omega arith) refl (miss (n + d) (omega arith) (omega arith))
    ∙ below_skip names n a d (λ i low high. miss i low (omega arith))

ended : (low reach : ℕ) (a : ℕ) → reach ≤ a → (nat_le low a && nat_lt a reach) ≡ false
ended low reach a past = grind (arith, nat_tests)

-- entries that end at or before the address
pub passed_over : (pool : List ℕ) (es : List Entry) (n i a : ℕ) → n ≤ i → i ≤ length es → ReachTo es n i a → covering_below (map (entry_seen pool) es) i a ≡ covering_below (map (entry_seen pool) es) n a
passed_over pool es n i a le within past =
    let names = map (entry_seen pool) es in
    let place : n + (i - n) ≡ i = omega (arith, le) in
    sym (ap (λ (k : ℕ). covering_below names k a) place)
    ∙ below_skip names n a (i - n) (λ j from upto.
    let f = get_or es j blank_entry in
    let lt : j < i = omega (arith, upto, place) in
    ap (λ (v : NameView). covers v a) (seen_at pool es j blank_entry (omega (arith, lt, within))) ∙ ended f.address (f.address + f.size) a (past j from lt))

-- ---- one name more

bytes_grow : (pool more : List ℕ) (s : Span) → IsWithin pool s → bytes_of (pool ++ more) s ≡ bytes_of pool s
bytes_grow pool more s h = grind (arith, length-drop, drop-append-le, take-append-le)

pub bytes_added : (pool text : List ℕ) → bytes_of (pool ++ text) (span_of pool text) ≡ text
bytes_added pool text = ap (take (length text)) (drop_at pool text (length pool) refl) ∙ take_all text
  where
    take_all : (xs : List ℕ) → take (length xs) xs ≡ xs
    take_all xs = ap (take (length xs)) (sym (append-nil xs)) ∙ take_at xs [] (length xs) refl

comment_seen : (pool more : List ℕ) (s : Option Span) → IfSome s (IsWithin pool) → option_map (bytes_of (pool ++ more)) s ≡ option_map (bytes_of pool) s
comment_seen pool more None h = refl
comment_seen pool more (Some s) h = ap (λ (t : List ℕ). Some t) (bytes_grow pool more s h)

entry_grows : (pool more : List ℕ) (e : Entry) → IsWithin pool e.text → IfSome e.comment (IsWithin pool) → entry_seen (pool ++ more) e ≡ entry_seen pool e
entry_grows pool more e t c = ap₂ (λ (x : List ℕ) (y : Option (List ℕ)). record { address = e.address; size = e.size; text = x; comment = y }) (bytes_grow pool more e.text t) (comment_seen pool more e.comment c)

-- all entries are seen as before
seen_grows : (pool more : List ℕ) (es : List Entry) → ((i : ℕ) → i < length es → IsWithin pool (get_or es i blank_entry).text × IfSome (get_or es i blank_entry).comment (IsWithin pool)) → map (entry_seen (pool ++ more)) es ≡ map (entry_seen pool) es
seen_grows pool more [] h = refl
seen_grows pool more (e ∷ es) h =
    let first = h 0 (omega arith) in
    ap₂ (λ (x : NameView) (xs : List NameView). x ∷ xs) (entry_grows pool more e first.0 first.1) (seen_grows pool more es (λ i l. h (suc i) (omega (arith, l))))

record IsAdded (pool after : List ℕ) (es : List Entry) (e : Entry) : Type 0 where
  text : IsWithin after e.text
  comment : IfSome e.comment (IsWithin after)
  own : reach_of e ≤ e.most
  block : ReachTo es (block_start (length es + 1)) (length es) e.most

-- an entry whose bytes are put at the end of the pool
pub record IsPut (pool after : List ℕ) (es : List Entry) (e : Entry) (n : NameView) : Type 0 where
  pub bytes : after ≡ (pool ++ n.text) ++ optional n.comment
  pub address : e.address ≡ n.address
  pub size : e.size ≡ n.size
  pub text : e.text ≡ span_of pool n.text
  pub comment : e.comment ≡ option_map (span_of (pool ++ n.text)) n.comment
  pub own : reach_of e ≤ e.most
  pub block : ReachTo es (block_start (length es + 1)) (length es) e.most

span_within : (pool text : List ℕ) → IsWithin (pool ++ text) (span_of pool text)
span_within pool text = omega (arith, length-append pool text)

pub put_seen : (pool after : List ℕ) (es : List Entry) (e : Entry) (n : NameView) → IsPool pool es → IsPut pool after es e n → map (entry_seen after) (es ++ e ∷ []) ≡ map (entry_seen pool) es ++ n ∷ []
put_seen pool after es e n p a = grind (arith, append_assoc, seen_grows, bytes_grow, span_within, bytes_added, map-append)
