-- What stands before the label of a group, by its number.
use Rattle.std.proofs.Common.{◌≡◌, ◌∙◌, ℕ, zero, suc, ◌+◌, ◌-◌, ◌*◌, ◌<◌, ◌≤◌, ◌∷◌, ◌++◌, false, true, List, refl, ap, sym, arith, append_assoc, ⊎_elim, []}
use Rattle.std.specs.List.{flat_map}
use Rattle.std.specs.Prelude.{nat_lt, not}
use Rattle.std.proofs.lemmas.Bool.{and_right, cases_lt, cond-false, cond-true}
use Rattle.std.proofs.lemmas.Bool.Decides.{nat_tests}
use Rattle.map65.specs.Words.{MapView, addresses, is_in_run, segment_at}
use Rattle.da65.specs.Words.{AreUnnamed, IsFirstOf, IsGroupStart, ListingLine, Style, after_group, comment_line, comment_lines, comments, forward_lines, forwards, group_left, group_len, group_lines, groups_left, has_marks, has_separator, heading_count, heading_lines, headings_from, is_same_segment, names_of, opening_lines, plain, segment_before, segment_lines, segment_statement, separator_lines, statement_lines, style_of}
use Rattle.da65.proofs.Groups.GroupLemmas.{group-some, groups-next}
use Rattle.da65.proofs.Names.BaseLemmas.{base_unnamed}
use Rattle.da65.proofs.NextLine.MarkLemmas.{unmarked, unnamed-comment}
use Rattle.da65.proofs.NextLine.NextLemmas.{lines-here, lines-none}
use Rattle.da65.proofs.NextLine.SegmentLemmas.{segment-itself, segment-none, segment-run}

-- ---- all of them are those of the definition

-- the same lines by other numbers, and those after them
lines-moved : (f g : ℕ → List ListingLine) (n end v w : ℕ) → v + n ≤ end → ((i : ℕ) → i < n → f (v + i) ≡ g (w + i))
    → flat_map f (addresses (end - v) v) ≡ flat_map g (addresses n w) ++ flat_map f (addresses (end - (v + n)) (v + n))
unfolding addresses
lines-moved f g zero end v w fits same = let here : v ≡ v + 0 = omega arith in ap (λ (x : ℕ). flat_map f (addresses (end - x) x)) here
lines-moved f g (suc n) end v w fits same =
    let here : v ≡ v + 0 = omega arith in
    let there : w + 0 ≡ w = omega arith in
    let next : v + 1 + n ≡ v + suc n = omega arith in
    let others : (i : ℕ) → i < n → f (v + 1 + i) ≡ g (w + 1 + i) = λ i low.
    let one : v + 1 + i ≡ v + suc i = omega arith in
    let other : w + suc i ≡ w + 1 + i = omega arith in
    ap f one ∙ same (suc i) (omega (arith, low)) ∙ ap g other in
    lines-here f end v (g w) (omega (arith, fits)) (ap f here ∙ same 0 (omega arith) ∙ ap g there)
    ∙ ap (λ (ls : List ListingLine). g w ++ ls) (lines-moved f g n end (v + 1) (w + 1) (omega (arith, fits)) others)
    ∙ sym (append_assoc (g w) (flat_map g (addresses n (w + 1))) _)
    ∙ ap (λ (x : ℕ). flat_map g (addresses (suc n) w) ++ flat_map f (addresses (end - x) x)) next

pub heading-comment : (m : MapView) (a n i : ℕ) → n ≡ 2 + i → i < group_len m a → heading_lines m a n ≡ comment_lines m (a + i)
unfolding heading_lines
heading-comment m a n i is low = let at : n ≡ suc (suc i) = omega (arith, is) in rw at (cond-true (nat_lt i (group_len m a)) _ _ (grind (arith, nat_tests)))

pub heading-forward : (m : MapView) (a n v : ℕ) → n + a ≡ 1 + group_len m a + v → a < v → heading_lines m a n ≡ forward_lines (names_of m) a v
unfolding heading_lines
heading-forward m a n v is after = grind (arith, cond-false, nat_tests)

headings : (m : MapView) (a : ℕ) → 1 ≤ group_len m a
    → headings_from m a 0 ≡ separator_lines m a ++ (segment_lines m a ++ (comments m (group_len m a) a ++ (forwards (names_of m) a (group_len m a - 1) (a + 1) ++ [])))
unfolding heading_lines
headings m a some =
    let len : ℕ = group_len m a in
    let end : ℕ = heading_count m a in
    let separator = lines-here (heading_lines m a) end 0 (separator_lines m a) (omega (arith, some)) refl in
    let segment = lines-here (heading_lines m a) end 1 (segment_lines m a) (omega (arith, some)) refl in
    let comment = lines-moved (heading_lines m a) (comment_lines m) len end 2 a (omega (arith, some)) (λ i low. heading-comment m a (2 + i) i refl low) in
    let forward = lines-moved (heading_lines m a) (forward_lines (names_of m) a) (len - 1) end (2 + len) (a + 1) (omega (arith, some)) (λ i low. heading-forward m a (2 + len + i) (a + 1 + i) (omega arith) (omega arith)) in
    let none = lines-none (heading_lines m a) end (2 + len + (len - 1)) (omega (arith, some)) in
    rw (separator, segment, comment, forward, none) refl

regroup : (separator segment comment forward statement ending rest : List ListingLine)
    → ((separator ++ (segment ++ comment)) ++ (forward ++ (statement ++ ending))) ++ rest ≡ (separator ++ (segment ++ (comment ++ (forward ++ [])))) ++ (statement ++ (ending ++ rest))
regroup separator segment comment forward statement ending rest = simp append_assoc refl

pub group-headings : (m : MapView) (k : ℕ) → IsGroupStart m k → group_left m k 0 ≡ groups_left m k
unfolding groups_left group_left group_lines opening_lines after_group
group-headings m k start = grind (arith, groups-next, group-some, headings, regroup)

-- ---- one after the other

heading-here : (m : MapView) (k n : ℕ) (ls : List ListingLine) → n < heading_count m (m.image.start + k) → heading_lines m (m.image.start + k) n ≡ ls → group_left m k n ≡ ls ++ group_left m k (n + 1)
unfolding group_left
heading-here m k n ls low is =
    let a : ℕ = m.image.start + k in
    let after : List ListingLine = statement_lines m a ++ after_group m k in
    ap (λ (ls : List ListingLine). ls ++ after) (lines-here (heading_lines m a) (heading_count m a) n ls low is) ∙ append_assoc ls (headings_from m a (n + 1)) after

pub heading-none : (m : MapView) (k n : ℕ) → n < heading_count m (m.image.start + k) → heading_lines m (m.image.start + k) n ≡ [] → group_left m k (n + 1) ≡ group_left m k n
heading-none m k n low none = sym (heading-here m k n [] low none)

pub heading-first : (m : MapView) (k n : ℕ) (t : Style) (text : List ℕ) → n < heading_count m (m.image.start + k) → IsFirstOf t (heading_lines m (m.image.start + k) n) text []
    → IsFirstOf t (group_left m k n) text (group_left m k (n + 1))
heading-first m k n t text low is = record { head = is.head; lines = heading-here m k n (is.head ∷ []) low is.lines; text_is = is.text_is }

pub headings-end : (m : MapView) (k n : ℕ) → heading_count m (m.image.start + k) ≤ n → group_left m k n ≡ statement_lines m (m.image.start + k) ++ after_group m k
unfolding group_left
headings-end m k n high = grind (arith, lines-none)

-- ---- where there are none

headings-none : (m : MapView) (k from n to : ℕ) → to ≡ from + n → to ≤ heading_count m (m.image.start + k) → ((i : ℕ) → from ≤ i → i < to → heading_lines m (m.image.start + k) i ≡ [])
    → group_left m k to ≡ group_left m k from
headings-none m k from zero to is fits none = let same : to ≡ from = omega (arith, is) in ap (group_left m k) same
headings-none m k from (suc n) to is fits none =
    let next : to ≡ from + n + 1 = omega (arith, is) in
    ap (group_left m k) next ∙ heading-none m k (from + n) (omega (arith, next, fits)) (none (from + n) (omega arith) (omega (arith, next)))
    ∙ headings-none m k from n (from + n) refl (omega (arith, next, fits)) (λ i low high. none i low (omega (arith, next, high)))

segment-spot : (m : MapView) (k a : ℕ) → a ≡ m.image.start + k → segment_before m (a - m.image.start) ≡ segment_before m k
segment-spot m k a place = let same : a - m.image.start ≡ k = omega (arith, place) in ap (segment_before m) same

pub segment-yes : (m : MapView) (k a : ℕ) → a ≡ m.image.start + k → is_same_segment (segment_at m a) (segment_before m k) ≡ false
    → segment_lines m a ≡ plain (segment_statement (segment_at m a)) ∷ []
unfolding segment_lines
segment-yes m k a place other = rw (segment-spot m k a place, other) refl

pub segment-no : (m : MapView) (k a : ℕ) → a ≡ m.image.start + k → is_same_segment (segment_at m a) (segment_before m k) ≡ true → segment_lines m a ≡ []
unfolding segment_lines
segment-no m k a place same = rw (segment-spot m k a place, same) refl

-- where there is neither a separator nor a segment line
headings-past : (m : MapView) (k : ℕ) → IsGroupStart m k → has_separator m (m.image.start + k) ≡ false → segment_before m k ≡ segment_at m (m.image.start + k) → group_left m k 2 ≡ groups_left m k
unfolding heading_lines
headings-past m k start bare same = headings-none m k 0 2 2 refl (omega (arith, group-some m k start.place start.inside start.shown)) none ∙ group-headings m k start
  where
    none : (i : ℕ) → 0 ≤ i → i < 2 → heading_lines m (m.image.start + k) i ≡ []
    none zero _ low = cond-false _ _ _ bare
    none (suc zero) _ low = segment-no m k (m.image.start + k) refl (rw same (segment-itself (segment_at m (m.image.start + k))))
    none (suc (suc i)) _ low = absurd (omega (arith, low))

pub headings-run : (m : MapView) (k : ℕ) → IsGroupStart m k → is_in_run m (m.image.start + k) ≡ true → group_left m k 2 ≡ groups_left m k
headings-run m k start run = headings-past m k start (and_right _ _ (ap not run)) (segment-run m k start run)

pub headings-bare : (m : MapView) (k : ℕ) → IsGroupStart m k → has_marks m.info (style_of m.info.settings) ≡ false → group_left m k 2 ≡ groups_left m k
headings-bare m k start bare =
    let none = unmarked m bare in
    headings-past m k start (none.separators (m.image.start + k)) (segment-none m k none.segments ∙ sym (none.segments (m.image.start + k)))

-- without marks there is no comment either
pub headings-unmarked : (m : MapView) (k : ℕ) → IsGroupStart m k → has_marks m.info (style_of m.info.settings) ≡ false → group_left m k (2 + group_len m (m.image.start + k)) ≡ groups_left m k
headings-unmarked m k start bare =
    let a : ℕ = m.image.start + k in
    headings-none m k 2 (group_len m a) (2 + group_len m a) refl (omega (arith, group-some m k start.place start.inside start.shown))
    (λ i low high. heading-comment m a i (i - 2) (omega (arith, low)) (omega (arith, low, high)) ∙ ap comment_line ((unmarked m bare).comments (a + (i - 2))))
    ∙ headings-bare m k start bare

-- and without names there is no forward line either
pub headings-unnamed : (m : MapView) (k : ℕ) → IsGroupStart m k → AreUnnamed m (m.image.start + k) (group_len m (m.image.start + k)) → group_left m k (heading_count m (m.image.start + k)) ≡ group_left m k 2
headings-unnamed m k start unnamed =
    let a : ℕ = m.image.start + k in
    let some = group-some m k start.place start.inside start.shown in
    headings-none m k 2 (2 * group_len m a - 1) (heading_count m a) (omega (arith, some)) (omega arith)
    (λ i low high. ⊎_elim
    (λ comment. heading-comment m a i (i - 2) (omega (arith, low)) comment ∙ ap comment_line (unnamed-comment m (a + (i - 2)) (unnamed (a + (i - 2)) (omega arith) (omega (arith, comment)))))
    (λ past.
    let v : ℕ = a + (i - group_len m a - 1) in
    heading-forward m a i v (omega (arith, low, past)) (omega (arith, low, past)) ∙ cond-false _ _ _ (base_unnamed m v (unnamed v (omega arith) (omega (arith, low, high, past, some)))))
    (cases_lt (i - 2) (group_len m a)))
