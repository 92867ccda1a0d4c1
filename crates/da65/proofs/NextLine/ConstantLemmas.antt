-- No address of an image has a constant line if each byte of it is listed.
use Rattle.std.proofs.Common.{◌≡◌, ◌∙◌, ℕ, zero, suc, ◌+◌, ◌-◌, ◌<◌, ◌≤◌, Bool, true, false, List, Option, Some, None, ap, arith, drop, get_or, length, refl, sym, take, zero-add, ◌∷◌, []}
use Rattle.std.proofs.lemmas.Bool.{and_parts, and_right, cond-false, false≢true}
use Rattle.std.proofs.lemmas.List.{get_or-drop, get_or-take, length-drop, length-take-le}
use Rattle.std.proofs.lemmas.List.Sums.{prefix_len-le-length, prefix_len_passes}
use Rattle.std.specs.List.{list_all, list_any, prefix_len}
use Rattle.std.specs.Prelude.{◌/◌, ◌%◌, ◌==◌, MatchOption, slice_index}
use Rattle.map65.specs.Words.{AreCellsOf, MapView, bit, end_of, has_name, role_of}
use Rattle.da65.specs.Words.{constant_lines, constants, has_constant_line, is_skip_range, is_unnamed, names_of}
use Rattle.da65.proofs.Names.BaseLemmas.{base_unnamed, constant_some}
use Rattle.da65.proofs.NextLine.NextLemmas.{line_none, lines-here, lines-none}
use Rattle.da65.proofs.Groups.SkipLemmas.{skip-in}
use Rattle.map65.proofs.Public.{role_at-inside}

none-listed : (m : MapView) (a : ℕ) → list_any is_skip_range m.info.ranges ≡ false → m.image.start ≤ a → a < end_of m.image → has_constant_line (names_of m) a ≡ false
none-listed m a all low high = and_right _ _ (constant_some m a (role_of m.info a) (role_at-inside m a low high) ∙ skip-in m.info.ranges a all)

same-place : (m : MapView) (v u : ℕ) → v ≡ u → constants m (65536 - v) v ≡ constants m (65536 - u) u
same-place m v u same = ap (λ (k : ℕ). constants m (65536 - k) k) same

constants-over : (m : MapView) (n v : ℕ) → v + n ≤ 65536 → ((a : ℕ) → v ≤ a → a < v + n → has_constant_line (names_of m) a ≡ false) → constants m (65536 - v) v ≡ constants m (65536 - (v + n)) (v + n)
constants-over m zero v bound none = same-place m v (v + 0) (omega arith)
constants-over m (suc n) v bound none =
    lines-here (constant_lines m) 65536 v [] (omega (arith, bound)) (cond-false _ _ _ (none v (omega arith) (omega arith)))
    ∙ constants-over m n (v + 1) (omega (arith, bound)) (λ a low high. none a (omega (arith, low)) (omega (arith, high)))
    ∙ same-place m (v + 1 + n) (v + suc n) (omega arith)

-- no address without a name has a constant line
pub constants-unnamed : (m : MapView) (from to : ℕ) → from ≤ to → to ≤ 65536 → ((a : ℕ) → from ≤ a → a < to → has_name m a ≡ false) → constants m (65536 - from) from ≡ constants m (65536 - to) to
constants-unnamed m from to order bound none =
    constants-over m (to - from) from (omega (arith, order, bound)) (λ a low high. line_none m a (base_unnamed m a (none a low (omega (arith, order, high)))))
    ∙ same-place m (from + (to - from)) to (omega (arith, order))

-- past cells whose addresses have no name
pub unnamed_past : (n : ℕ) (cells : List ℕ) → n ≤ length cells → list_all is_unnamed (take n cells) ≡ true → prefix_len is_unnamed cells ≡ n + prefix_len is_unnamed (drop n cells)
unnamed_past zero cells low none = sym (zero-add (prefix_len is_unnamed cells))
unnamed_past (suc n) [] low none = absurd (omega (arith, low))
unnamed_past (suc n) (c ∷ cells) low none =
    let parts = and_parts (is_unnamed c) (list_all is_unnamed (take n cells)) none in
    rw parts.0 (omega (arith, unnamed_past n cells (omega (arith, low)) parts.1))

named-bit : (named : Bool) (bits : ℕ) → bits ≡ bit named → (bits == 0) ≡ true → named ≡ false
named-bit false bits is none = refl
named-bit true bits is none = let wrong : false ≡ true = rw is at none in absurd (false≢true wrong)

-- the cells from an address on say which is the first with a name
pub unnamed-between : (m : MapView) (cells : List ℕ) (from end : ℕ) → AreCellsOf m cells → from ≤ end → end ≤ 65536 → (a : ℕ) → from ≤ a → a < from + prefix_len is_unnamed (drop from (take end cells)) → has_name m a ≡ false
unnamed-between m cells from end are order bound a low high =
    let rest = drop from (take end cells) in
    let k = a - from in
    let fits = prefix_len-le-length is_unnamed rest in
    let long : length rest ≡ length (take end cells) - from = length-drop from (take end cells) in
    let taken : length (take end cells) ≡ end = length-take-le end cells (omega (arith, are.count, bound)) in
    let inside : from + k < end = omega (arith, low, high, fits, long, taken, order) in
    let same : from + k ≡ a = omega (arith, low) in
    let cell : get_or rest k 0 ≡ slice_index cells a = get_or-drop from (take end cells) k 0 ∙ get_or-take end cells (from + k) 0 inside ∙ ap (slice_index cells) same in
    named-bit (has_name m a) (slice_index cells a / 128 % 2) (are.each a (omega (arith, same, inside, bound))).named
    (ap is_unnamed (sym cell) ∙ prefix_len_passes is_unnamed rest k 0 (omega (arith, low, high)))

-- from an address of such an image its end is as good
pub constants_listed : (m : MapView) (v end : ℕ) → end ≡ end_of m.image → end ≤ 65536 → list_any is_skip_range m.info.ranges ≡ false → m.image.start ≤ v → v < end → constants m (65536 - v) v ≡ constants m (65536 - end) end
constants_listed m v end is bound all low high =
    constants-over m (end - v) v (omega (arith, bound, high)) (λ a after before. none-listed m a all (omega (arith, low, after)) (omega (arith, is, before, high)))
    ∙ same-place m (v + (end - v)) end (omega (arith, high))

-- the first constant from one address on is the first from another, if none stands between them
pub first_constant : (m : MapView) (from after : ℕ) (found : Option ℕ) → constants m (65536 - from) from ≡ constants m (65536 - after) after
    → MatchOption found (constants m (65536 - after) after ≡ constants m (65536 - 65536) 65536) (λ v. constants m (65536 - after) after ≡ constants m (65536 - v) v)
    → MatchOption found (constants m (65536 - from) from ≡ []) (λ v. constants m (65536 - from) from ≡ constants m (65536 - v) v)
first_constant m from after None same none = same ∙ none ∙ lines-none (constant_lines m) 65536 65536 (omega arith)
first_constant m from after (Some v) same some = same ∙ some
