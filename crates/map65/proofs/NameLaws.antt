-- The laws of targets and names.
use Rattle.std.proofs.Common.{◌≡◌, ◌∙◌, ◌⊎◌, inl, inr, ℕ, ◌+◌, ◌-◌, ◌<◌, ◌&&◌, ◌==◌, Bool, true, false, List, Option, Some, None, length, get_or, refl, ap, sym, arith, ⊎_elim}
use Rattle.std.proofs.lemmas.Bool.{and_from, and_parts, both_ways, cases_Bool, cases_eq, cases_lt, eqb-true, false≢true, or_cases}
use Rattle.std.proofs.lemmas.List.Folds.{Any-from_list_any, list_any_at}
use Rattle.info65.specs.Words.{AreNames, NameView, blank_name, covering, covers, name_at}
use Rattle.info65.proofs.Public.{last_name, none_covers}
use Rattle.map65.proofs.ItemLaws.{begun, start-len}
use Rattle.map65.proofs.ItemLemmas.{belongs, inside-if, item_start-within, one-role, size-positive, start-piece}
use Rattle.map65.proofs.NameLemmas.{base-covered, base-unreferenced, base-referenced}
use Rattle.map65.proofs.NamingLemmas.{address-at, address-count, entry_start-narrow, entry_start-wide, wide-shown}
use Rattle.map65.proofs.MarkingLemmas.{item_fits}
use Rattle.map65.proofs.TargetLemmas.{short_at}
use Rattle.map65.specs.Words.{Base, EntryStartLaw, IsHighest, IsInner, IsReferenced, IsTarget, IsUncovered, MapView, NameLaw, ReferenceLaw, addresses, base_at, base_by, base_or, default_base, entry_base, entry_start, given_base, is_inside, is_referenced, is_skip, is_wide, item_len, item_start, refers, refers_by, role_of, target_at}

-- ---- the item that an address lies inside

-- where no item begins, one lies over the address, unless it is skipped
pub record Under (m : MapView) (a : ℕ) : Type 0 where
  pub begins : 0 < item_len m (item_start m a)
  pub after : item_start m a < a
  pub before : a < item_start m a + item_len m (item_start m a)
  pub same : role_of m.info a ≡ role_of m.info (item_start m a)

pub under : (m : MapView) (a : ℕ) → is_inside m.image a ≡ true → is_skip (role_of m.info a) ≡ false → item_len m a ≡ 0 → Under m a
under m a inside shown none =
    let h = belongs m a in
    let len = start-len m a inside shown in
    let begins : 0 < item_len m (item_start m a) = omega (arith, len, size-positive m (item_start m a)) in
    ⊎_elim
    (λ same. absurd (omega (arith, begins, ap (item_len m) same, none)))
    (λ other. record { begins = begins; after = omega (arith, h.low, other); before = omega (arith, h.high, len); same = one-role m (item_start m a) a h.low (start-piece m a) })
    (cases_eq (item_start m a) a)

pub entry_start-inner : (m : MapView) (a first : ℕ) → IsInner m a first → entry_start m a ≡ first
entry_start-inner m a first i =
    let is = begun m first i.begins in
    entry_start-wide m a (and_from _ _ (inside-if m a (omega (arith, is.low, i.after)) (omega (arith, i.before, item_fits m first i.begins))) i.wide)
    ∙ item_start-within m first a is.own (omega (arith, i.after)) (omega (arith, is.len, i.before))

-- the first byte of an item is its own entry start
pub entry_start-item : (m : MapView) (a : ℕ) → 0 < item_len m a → entry_start m a ≡ a
entry_start-item m a begins = grind (arith, entry_start-wide, begun, entry_start-narrow)

-- an address is its own entry start, or lies inside an item
pub entry_start-cases : (m : MapView) (a : ℕ) → (entry_start m a ≡ a) ⊎ ((first : ℕ) × IsInner m a first)
entry_start-cases m a =
    ⊎_elim
    (λ is.
    let parts = and_parts (is_inside m.image a) (is_wide (role_of m.info a)) is in
    ⊎_elim
    (λ none. let u = under m a parts.0 (wide-shown (role_of m.info a) parts.1) none in inr (item_start m a, record { wide = parts.1; begins = u.begins; after = u.after; before = u.before }))
    (λ some. inl (entry_start-item m a (omega (arith, some))))
    (cases_eq (item_len m a) 0))
    (λ is. inl (entry_start-narrow m a is))
    (cases_Bool (is_inside m.image a && is_wide (role_of m.info a)))

entry_start-other : (m : MapView) (a : ℕ) → ((first : ℕ) → IsInner m a first → ⊥) → entry_start m a ≡ a
entry_start-other m a other = ⊎_elim (λ same. same) (λ inner. absurd (other inner.0 inner.1)) (entry_start-cases m a)

pub entry_start_law : (m : MapView) → EntryStartLaw m
entry_start_law m = record { inner = entry_start-inner m; other = entry_start-other m }

-- the entry start of an address is its own entry start
pub entry_start-entry_start : (m : MapView) (a : ℕ) → entry_start m (entry_start m a) ≡ entry_start m a
entry_start-entry_start m a = grind (arith, entry_start-inner, entry_start-item, entry_start-cases)

-- ---- targets

target-item : (m : MapView) (item t : ℕ) → target_at m item ≡ Some t → IsTarget m t
target-item m item t has = grind (arith, short_at)

-- ---- what is referenced

entry_start-place : (m : MapView) (t a : ℕ) → entry_start m t ≡ a → (a ≡ t) ⊎ IsInner m t a
entry_start-place m t a is = grind (arith, entry_start-inner, entry_start-cases)

referenced-by : (m : MapView) (a item : ℕ) (o : Option ℕ) → target_at m item ≡ o → refers_by m o a ≡ true → IsReferenced m a
referenced-by m a item None has is = absurd (false≢true is)
referenced-by m a item (Some t) has is =
    record {
      target = t;
      is_target = target-item m item t has;
      place = ⊎_elim (λ same. inl (sym (eqb-true t a same))) (λ moved. entry_start-place m t a (eqb-true (entry_start m t) a moved)) (or_cases (t == a) (entry_start m t == a) is);
    }

referenced-then : (m : MapView) (a : ℕ) → is_referenced m a ≡ true → IsReferenced m a
unfolding is_referenced refers
referenced-then m a is = grind (arith, Any-from_list_any, referenced-by)

refers-if : (m : MapView) (item t a : ℕ) → target_at m item ≡ Some t → (t ≡ a) ⊎ (entry_start m t ≡ a) → refers m a item ≡ true
unfolding refers
refers-if m item t a has is = grind arith

pub referenced-if : (m : MapView) (t a : ℕ) → IsTarget m t → (t ≡ a) ⊎ (entry_start m t ≡ a) → is_referenced m a ≡ true
unfolding is_referenced
referenced-if m t a target is =
    let b = begun m target.item target.begins in
    let k : ℕ = target.item - m.image.start in
    let n : ℕ = length m.image.bytes in
    let low : k < n = omega (arith, b.low, b.high) in
    let at : get_or (addresses n m.image.start) k 0 ≡ target.item = address-at n k m.image.start 0 low ∙ omega (arith, b.low) in
    list_any_at (refers m a) (addresses n m.image.start) k 0 (omega (arith, address-count n m.image.start, low)) (ap (refers m a) at ∙ refers-if m target.item t a target.has is)

referenced-from : (m : MapView) (a : ℕ) → IsReferenced m a → is_referenced m a ≡ true
referenced-from m a w = referenced-if m w.target a w.is_target (⊎_elim (λ same. inl (sym same)) (λ inner. inr (entry_start-inner m w.target a inner)) w.place)

pub reference_law : (m : MapView) → ReferenceLaw m
reference_law m a = (referenced-then m a, referenced-from m a)

-- the entry start of an address that is referenced is referenced
pub entry_start-referenced : (m : MapView) (a : ℕ) → is_referenced m a ≡ true → is_referenced m (entry_start m a) ≡ true
entry_start-referenced m a is =
    let w = referenced-then m a is in
    ⊎_elim
    (λ same. referenced-if m w.target (entry_start m a) w.is_target (inr (ap (entry_start m) (sym same))))
    (λ inner.
    let own : entry_start m a ≡ a = entry_start-item m a inner.begins in
    ap (is_referenced m) own ∙ is)
    w.place

-- ---- the name, case by case

-- the last name that covers an address is the one whose own address is highest
highest-last : (names : List NameView) → AreNames names → (a : ℕ) (b : Base) → IsHighest names a b → (o : Option NameView) → covering names a ≡ o → (v : NameView) × ((o ≡ Some v) × (given_base v ≡ b))
highest-last names are a b h None is = absurd (both_ways (covers (name_at names h.index) a) (none_covers names a is h.index h.low) h.covers_it)
highest-last names are a b h (Some v) is =
    let r = last_name names a v is in
    let own : b.address ≡ (name_at names h.index).address = ap (λ (x : Base). x.address) h.is in
    ⊎_elim
    (λ same. (v, (refl, ap given_base r.is ∙ ap (λ (k : ℕ). given_base (name_at names k)) same ∙ sym h.is)))
    (λ other.
    ⊎_elim
    (λ below. absurd (both_ways (covers (name_at names h.index) a) (r.later h.index below h.low) h.covers_it))
    (λ above. absurd (omega (arith, own, are.rising h.index r.index blank_name (omega (arith, above, other)) r.low, h.highest r.index r.low r.covers_it)))
    (cases_lt r.index h.index))
    (cases_eq r.index h.index)

name-given : (m : MapView) → AreNames m.info.names → (a : ℕ) (b : Base) → IsHighest m.info.names a b → base_at m a ≡ Some b
name-given m are a b h =
    let found = highest-last m.info.names are a b h (covering m.info.names a) refl in
    base-covered m a found.0 found.1.0 ∙ ap (λ (x : Base). Some x) found.1.1

uncovered : (names : List NameView) (a : ℕ) → IsUncovered names a → (o : Option NameView) → covering names a ≡ o → o ≡ None
uncovered names a none None is = refl
uncovered names a none (Some v) is = let r = last_name names a v is in absurd (both_ways (covers (name_at names r.index) a) (none r.index r.low) r.covers_it)

pub free : (names : List NameView) (a : ℕ) → IsUncovered names a → covering names a ≡ None
free names a none = uncovered names a none (covering names a) refl

either : (o : Option NameView) (b : Base) → base_by o true (base_or o b) ≡ Some (base_or o b)
either None b = refl
either (Some v) b = refl

entry_base-at : (m : MapView) (a first : ℕ) → entry_start m a ≡ first → entry_base m a ≡ base_or (covering m.info.names first) (default_base first)
unfolding entry_base
entry_base-at m a first is = ap (λ (x : ℕ). base_or (covering m.info.names x) (default_base x)) is

base-is : (m : MapView) (a : ℕ) → is_referenced m a ≡ true → base_at m a ≡ base_by (covering m.info.names a) true (entry_base m a)
unfolding base_at
base-is m a referenced = ap (λ (w : Bool). base_by (covering m.info.names a) w (entry_base m a)) referenced

name-inner : (m : MapView) (a first : ℕ) → IsUncovered m.info.names a → IsTarget m a → IsInner m a first → base_at m a ≡ base_at m first
name-inner m a first none target inner =
    let moved = entry_start-inner m a first inner in
    let stays = entry_start-item m first inner.begins in
    let first_referenced : is_referenced m first ≡ true = referenced-if m a first target (inr moved) in
    base-referenced m a (free m.info.names a none) (referenced-if m a a target (inl refl))
    ∙ ap (λ (b : Base). Some b) (entry_base-at m a first moved)
    ∙ sym (base-is m first first_referenced ∙ ap (base_by (covering m.info.names first) true) (entry_base-at m first first stays) ∙ either (covering m.info.names first) (default_base first))

name-default : (m : MapView) (a : ℕ) → IsUncovered m.info.names a → IsReferenced m a → ((first : ℕ) → IsInner m a first → ⊥) → base_at m a ≡ Some (default_base a)
name-default m a none referenced other = grind (arith, free, base-referenced, referenced-from, entry_base-at, entry_start-other)

name-none : (m : MapView) (a : ℕ) → IsUncovered m.info.names a → (IsReferenced m a → ⊥) → base_at m a ≡ None
name-none m a none unreferenced = grind (arith, referenced-then, base-unreferenced, free)

pub name_law : (m : MapView) → AreNames m.info.names → NameLaw m
name_law m are = record { given = name-given m are; inner = name-inner m; default = name-default m; none = name-none m }
