-- Groups, byte by byte.
use Rattle.std.proofs.Common.{◌≡◌, ◌≢◌, ◌∙◌, ℕ, zero, suc, ◌+◌, ◌-◌, ◌<◌, ◌≤◌, ◌&&◌, ◌==◌, not, Bool, true, false, List, ◌∷◌, length, refl, ap, sym, subst, arith, ⊎_elim, if◌then◌else◌, []}
use Rattle.std.proofs.lemmas.Bool.{and_right, cond-true, cond-false, cases_eq, cases_lt, ne_eqb}
use Rattle.map65.specs.Words.{MapView, addresses, end_of, is_inside, is_joined, is_skip, item_len, left_at, role_of, size_at, unit_of}
use Rattle.map65.proofs.Public.{begun as item-begun, inside-index, item-len-at, item_start-after, item_start-within, left-begun, left-first, left-going, left-inside, size-fits, size-positive, skip-size, start-own}
use Rattle.da65.specs.Words.{BeginsItem, IsGroupPlace, begins, goes_on, group_addresses, group_len, groups_from, is_defined, limit_at, more_at, stride_at}

-- ---- the items that go on

-- what is known of an item that goes on
pub record GoesOn (m : MapView) (a : ℕ) : Type 0 where
  pub joined : is_joined m a ≡ true
  pub whole : item_len m a ≡ unit_of (role_of m.info a)
  pub some : 0 < item_len m a
  pub unnamed : is_defined m a ≡ false

pub item-goes-on : (m : MapView) (a : ℕ) → goes_on m a ≡ true → GoesOn m a
unfolding goes_on
item-goes-on m a is = grind arith

pub more-none : (m : MapView) (a : ℕ) → more_at m 0 a ≡ 0
unfolding more_at
more-none m a = refl

pub more-true : (m : MapView) (n a : ℕ) → goes_on m a ≡ true → more_at m (suc n) a ≡ item_len m a + more_at m n (a + item_len m a)
unfolding more_at
more-true m n a is = cond-true (goes_on m a) _ _ is

pub more-false : (m : MapView) (n a : ℕ) → goes_on m a ≡ false → more_at m (suc n) a ≡ 0
unfolding more_at
more-false m n a is = cond-false (goes_on m a) _ _ is

-- where an item begins with the k-th byte, or so many items, they end where none is under way
record ItemEnds (m : MapView) (k len : ℕ) : Type 0 where
  fits : k + len ≤ length m.image.bytes
  item : BeginsItem m (k + len)

none-ends : (m : MapView) (n k a : ℕ) → more_at m n a ≡ 0 → k ≤ length m.image.bytes → BeginsItem m k → ItemEnds m k (more_at m n a)
none-ends m n k a none bound item = grind arith

-- where an item ends the next one begins
pub next-item : (m : MapView) (k len : ℕ) → len ≡ size_at m (m.image.start + k) → BeginsItem m k → BeginsItem m (k + len)
next-item m k len same begins =
    let place : m.image.start + (k + len) ≡ m.image.start + k + size_at m (m.image.start + k) = omega (arith, same) in
    rw place (item_start-after m (m.image.start + k) begins)

-- and none begins within it
pub item-apart : (m : MapView) (p k : ℕ) → BeginsItem m p → p < k → k < p + size_at m (m.image.start + p) → BeginsItem m k → ⊥
item-apart m p k here low high there = omega (arith, low, there, item_start-within m (m.image.start + p) (m.image.start + k) here (omega (arith, low)) (omega (arith, high)))

item-ends : (m : MapView) (k len : ℕ) → k < length m.image.bytes → len ≡ size_at m (m.image.start + k) → BeginsItem m k → ItemEnds m k len
item-ends m k len low same begins = record { fits = omega (arith, same, size-fits m k low); item = next-item m k len same begins }

more-ends : (m : MapView) (n k a : ℕ) → a ≡ m.image.start + k → k ≤ length m.image.bytes → BeginsItem m k → ItemEnds m k (more_at m n a)
more-ends m zero k a e bound item = none-ends m zero k a (more-none m a) bound item
more-ends m (suc n) k a e bound item = go (goes_on m a) refl (more-ends m n)
  where
    go : (t : Bool) → goes_on m a ≡ t → ((k a : ℕ) → a ≡ m.image.start + k → k ≤ length m.image.bytes → BeginsItem m k → ItemEnds m k (more_at m n a)) → ItemEnds m k (more_at m (suc n) a)
    go false is past = none-ends m (suc n) k a (more-false m n a is) bound item
    go true is past =
        let begun = item-begun m a (item-goes-on m a is).some in
        let low : k < length m.image.bytes = omega (arith, begun.high, e) in
        let ends = item-ends m k (item_len m a) low (begun.len ∙ ap (size_at m) e) item in
        let others = past (k + item_len m a) (a + item_len m a) (omega (arith, e)) ends.fits ends.item in
        let more = more-true m n a is in
        let place : k + more_at m (suc n) a ≡ k + item_len m a + more_at m n (a + item_len m a) = omega (arith, more) in
        record { fits = omega (arith, others.fits, more); item = subst (BeginsItem m) (sym place) others.item }

-- ---- the group at a place

pub item-begins : (m : MapView) (k : ℕ) → IsGroupPlace m k → k < length m.image.bytes → is_skip (role_of m.info (m.image.start + k)) ≡ false → 0 < item_len m (m.image.start + k)
item-begins m k here low shown = omega (arith, item-len-at m k low shown here.item, size-positive m (m.image.start + k))

-- the group ends where no item is under way
group-ends : (m : MapView) (k : ℕ) → IsGroupPlace m k → k < length m.image.bytes → is_skip (role_of m.info (m.image.start + k)) ≡ false → ItemEnds m k (group_len m (m.image.start + k))
unfolding group_len
group-ends m k here low shown =
    let a : ℕ = m.image.start + k in
    let first = item-ends m k (item_len m a) low (item-len-at m k low shown here.item) here.item in
    let others = more-ends m (limit_at m a - 1) (k + item_len m a) (a + item_len m a) (omega arith) first.fits first.item in
    let place : k + (item_len m a + more_at m (limit_at m a - 1) (a + item_len m a)) ≡ k + item_len m a + more_at m (limit_at m a - 1) (a + item_len m a) = omega arith in
    record { fits = omega (arith, others.fits); item = subst (BeginsItem m) (sym place) others.item }

pub group-fits : (m : MapView) (k : ℕ) → IsGroupPlace m k → k < length m.image.bytes → is_skip (role_of m.info (m.image.start + k)) ≡ false → k + group_len m (m.image.start + k) ≤ length m.image.bytes
group-fits m k here low shown = (group-ends m k here low shown).fits

pub group-some : (m : MapView) (k : ℕ) → IsGroupPlace m k → k < length m.image.bytes → is_skip (role_of m.info (m.image.start + k)) ≡ false → 1 ≤ group_len m (m.image.start + k)
unfolding group_len
group-some m k here low shown = omega (arith, item-begins m k here low shown)

-- ---- from place to place

-- where a step of at least one byte ends none is under way
left-step : (size : ℕ → ℕ) (start k n : ℕ) → n ≡ size (start + k) → 1 ≤ n → left_at size start k ≡ 0 → left_at size start (k + n) ≡ 0
left-step size start k n same some none =
    let place : k + n ≡ suc k + (n - 1) = omega (arith, some) in
    ap (left_at size start) place ∙ left-inside size start k (n - 1) none (omega (arith, same, some)) ∙ omega (arith, same)

pub stride-skip : (m : MapView) (a : ℕ) → is_skip (role_of m.info a) ≡ true → stride_at m a ≡ 1
unfolding stride_at
stride-skip m a is = cond-true (is_skip (role_of m.info a)) _ _ is

pub stride-group : (m : MapView) (a : ℕ) → is_skip (role_of m.info a) ≡ false → stride_at m a ≡ group_len m a
unfolding stride_at
stride-group m a is = cond-false (is_skip (role_of m.info a)) _ _ is

pub first_place : (m : MapView) → IsGroupPlace m 0
first_place m = record { bound = omega arith; group = left-first (stride_at m) m.image.start; item = start-own m }

pub place-skip : (m : MapView) (k : ℕ) → IsGroupPlace m k → k < length m.image.bytes → is_skip (role_of m.info (m.image.start + k)) ≡ true → IsGroupPlace m (k + 1)
place-skip m k here low skip = grind (arith, left-step, stride-skip, next-item, skip-size)

pub place-next : (m : MapView) (k : ℕ) → IsGroupPlace m k → k < length m.image.bytes → is_skip (role_of m.info (m.image.start + k)) ≡ false → IsGroupPlace m (k + group_len m (m.image.start + k))
place-next m k here low shown = grind (arith, group-ends, left-step, stride-group)

-- ---- where a group begins, by the byte's index

begins-index : (m : MapView) (k : ℕ) → begins m (m.image.start + k) ≡ (is_inside m.image (m.image.start + k) && (not (is_skip (role_of m.info (m.image.start + k))) && left_at (stride_at m) m.image.start k == 0))
unfolding begins
begins-index m k = grind arith

pub begins-true : (m : MapView) (k : ℕ) → k < length m.image.bytes → is_skip (role_of m.info (m.image.start + k)) ≡ false → left_at (stride_at m) m.image.start k ≡ 0 → begins m (m.image.start + k) ≡ true
begins-true m k low shown none = grind (arith, begins-index)

pub begins-skip : (m : MapView) (k : ℕ) → k < length m.image.bytes → is_skip (role_of m.info (m.image.start + k)) ≡ true → begins m (m.image.start + k) ≡ false
begins-skip m k low skip = begins-index m k ∙ rw (inside-index m k low, skip) refl

pub begins-inside : (m : MapView) (k : ℕ) → k < length m.image.bytes → left_at (stride_at m) m.image.start k ≢ 0 → begins m (m.image.start + k) ≡ false
begins-inside m k low some = begins-index m k ∙ and_right _ _ (and_right _ _ (ne_eqb (left_at (stride_at m) m.image.start k) 0 some))

-- ---- the groups that are left

pub groups-step : (m : MapView) (k : ℕ) → k < length m.image.bytes → groups_from m k ≡ (if begins m (m.image.start + k) then (m.image.start + k) ∷ groups_from m (k + 1) else groups_from m (k + 1))
unfolding groups_from addresses
groups-step m k low = grind arith

-- no group begins before the one that is under way ends
groups-pass : (m : MapView) (n k : ℕ) → left_at (stride_at m) m.image.start k ≡ n → k + n ≤ length m.image.bytes → groups_from m k ≡ groups_from m (k + n)
groups-pass m zero k is low = let place : k ≡ k + 0 = omega arith in ap (groups_from m) place
groups-pass m (suc n) k is low =
    let some : left_at (stride_at m) m.image.start k ≢ 0 = λ none. absurd (omega (arith, is, none)) in
    let next : k + 1 ≡ suc k = omega arith in
    let left : left_at (stride_at m) m.image.start (k + 1) ≡ n = ap (left_at (stride_at m) m.image.start) next ∙ left-going (stride_at m) m.image.start k some ∙ omega (arith, is) in
    let place : k + 1 + n ≡ k + suc n = omega arith in
    let inside : k < length m.image.bytes = omega (arith, low) in
    groups-step m k inside ∙ cond-false _ _ _ (begins-inside m k inside some) ∙ groups-pass m n (k + 1) left (omega (arith, low)) ∙ ap (groups_from m) place

-- the groups of the whole image
pub groups-first : (m : MapView) → group_addresses m ≡ groups_from m 0
unfolding groups_from group_addresses
groups-first m = grind arith

pub groups-end : (m : MapView) (k : ℕ) → k ≡ length m.image.bytes → groups_from m k ≡ []
unfolding groups_from addresses
groups-end m k end = let none : length m.image.bytes - k ≡ 0 = omega (arith, end) in rw none refl

-- a skipped byte is passed over
pub groups-skip : (m : MapView) (k : ℕ) → IsGroupPlace m k → k < length m.image.bytes → is_skip (role_of m.info (m.image.start + k)) ≡ true → groups_from m k ≡ groups_from m (k + 1)
groups-skip m k here low skip = groups-step m k low ∙ cond-false _ _ _ (begins-skip m k low skip)

-- the group of the k-th byte, and those after it
pub groups-next : (m : MapView) (k : ℕ) → IsGroupPlace m k → k < length m.image.bytes → is_skip (role_of m.info (m.image.start + k)) ≡ false
    → groups_from m k ≡ (m.image.start + k) ∷ groups_from m (k + group_len m (m.image.start + k))
groups-next m k here low shown =
    let len : ℕ = group_len m (m.image.start + k) in
    let some : 1 ≤ len = group-some m k here low shown in
    let fits : k + len ≤ length m.image.bytes = group-fits m k here low shown in
    let next : k + 1 ≡ suc k = omega arith in
    let left : left_at (stride_at m) m.image.start (k + 1) ≡ len - 1 =
    ap (left_at (stride_at m) m.image.start) next ∙ left-begun (stride_at m) m.image.start k here.group ∙ ap (λ (n : ℕ). n - 1) (stride-group m (m.image.start + k) shown) in
    let place : k + 1 + (len - 1) ≡ k + len = omega (arith, some) in
    groups-step m k low ∙ cond-true _ _ _ (begins-true m k low shown here.group) ∙ ap (λ (rest : List ℕ). (m.image.start + k) ∷ rest) (groups-pass m (len - 1) (k + 1) left (omega (arith, some, fits)) ∙ ap (groups_from m) place)

-- ---- a group begins at a place alone

-- what is known where a group begins
pub record GroupBegins (m : MapView) (a : ℕ) : Type 0 where
  pub low : m.image.start ≤ a
  pub high : a < end_of m.image
  pub shown : is_skip (role_of m.info a) ≡ false
  pub none : left_at (stride_at m) m.image.start (a - m.image.start) ≡ 0

pub group-begun : (m : MapView) (a : ℕ) → begins m a ≡ true → GroupBegins m a
unfolding begins
group-begun m a is = grind arith

-- the step from a place: to the next one, which lies after it
pub record Step (m : MapView) (p : ℕ) : Type 0 where
  pub some : 1 ≤ stride_at m (m.image.start + p)
  pub next : IsGroupPlace m (p + stride_at m (m.image.start + p))

pub place-step : (m : MapView) (p : ℕ) → IsGroupPlace m p → p < length m.image.bytes → Step m p
place-step m p here low = go (is_skip (role_of m.info (m.image.start + p))) refl
  where
    go : (t : Bool) → is_skip (role_of m.info (m.image.start + p)) ≡ t → Step m p
    go true e =
        let one : stride_at m (m.image.start + p) ≡ 1 = stride-skip m (m.image.start + p) e in
        record { some = omega (arith, one); next = rw one (place-skip m p here low e) }
    go false e =
        let len : stride_at m (m.image.start + p) ≡ group_len m (m.image.start + p) = stride-group m (m.image.start + p) e in
        record { some = omega (arith, len, group-some m p here low e); next = rw len (place-next m p here low e) }

-- within a step its bytes are left
pub left-within : (size : ℕ → ℕ) (start p k : ℕ) → left_at size start p ≡ 0 → p < k → k < p + size (start + p) → left_at size start k ≢ 0
left-within size start p k here low high none =
    let i : ℕ = k - p - 1 in
    let place : k ≡ suc p + i = omega (arith, low) in
    let left = left-inside size start p i here (omega (arith, low, high)) in
    let none' : left_at size start (suc p + i) ≡ 0 = sym (ap (left_at size start) place) ∙ none in
    omega (arith, left, none', low, high)

-- the place from which the step goes that has the k-th byte
pub record Holder (m : MapView) (k : ℕ) : Type 0 where
  pub first : ℕ
  pub place : IsGroupPlace m first
  pub low : first ≤ k
  pub reach : k < first + stride_at m (m.image.start + first)

hold : (m : MapView) (n p k : ℕ) → k < p + n → p ≤ k → k < length m.image.bytes → IsGroupPlace m p → Holder m k
hold m zero p k fuel low high here = absurd (omega (arith, fuel, low))
hold m (suc n) p k fuel low high here =
    let step = place-step m p here (omega (arith, low, high)) in
    let next : ℕ = p + stride_at m (m.image.start + p) in
    ⊎_elim
    (λ within. record { first = p; place = here; low = low; reach = within })
    (λ past. hold m n next k (omega (arith, fuel, step.some)) past high step.next)
    (cases_lt k next)

pub holder : (m : MapView) (k : ℕ) → k < length m.image.bytes → Holder m k
holder m k high = hold m (suc k) 0 k (omega arith) (omega arith) high (first_place m)

-- a group begins at a place alone
pub place-of : (m : MapView) (a : ℕ) → begins m a ≡ true → IsGroupPlace m (a - m.image.start)
place-of m a is =
    let known = group-begun m a is in
    let k : ℕ = a - m.image.start in
    let held = holder m k (omega (arith, known.low, known.high)) in
    ⊎_elim
    (λ same. subst (IsGroupPlace m) (sym same) held.place)
    (λ other. absurd (left-within (stride_at m) m.image.start held.first k held.place.group (omega (arith, held.low, other)) held.reach known.none))
    (cases_eq k held.first)
