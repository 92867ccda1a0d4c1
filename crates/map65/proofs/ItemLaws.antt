-- The law of items.
use Rattle.std.proofs.Common.{◌≡◌, refl, ◌∙◌, inl, inr, ℕ, zero, suc, ◌+◌, ◌-◌, ◌<◌, ◌≤◌, ◌&&◌, ◌==◌, not, true, false, ap, sym, arith, ⊎_elim}
use Rattle.std.proofs.lemmas.Bool.{and_from, and_parts, cases_Bool, cases_eq, cases_lt, eqb-true, not-true}
use Rattle.map65.proofs.ItemLemmas.{belongs, inside-if, item-len-own, item_start-after, item_start-apart, item_start-further, joined-in, joined-piece, one-role, size-positive, start-apart, start-piece, within}
use Rattle.map65.specs.Words.{AreItems, AreOnePiece, CanBegin, EndsBefore, ItemLaw, MapView, are_joined, end_of, full_len_at, is_inside, is_joined, is_skip, item_len, item_start, role_of, size_at}

-- ---- what is known where an item begins

pub record Begun (m : MapView) (a : ℕ) : Type 0 where
  pub inside : is_inside m.image a ≡ true
  pub low : m.image.start ≤ a
  pub high : a < end_of m.image
  pub shown : is_skip (role_of m.info a) ≡ false
  pub own : item_start m a ≡ a
  pub len : item_len m a ≡ size_at m a

item-test : (m : MapView) (a : ℕ) → 0 < item_len m a → (is_inside m.image a && (not (is_skip (role_of m.info a)) && item_start m a == a)) ≡ true
unfolding item_len
item-test m a some = grind arith

pub begun : (m : MapView) (a : ℕ) → 0 < item_len m a → Begun m a
begun m a some =
    let outer = and_parts (is_inside m.image a) (not (is_skip (role_of m.info a)) && item_start m a == a) (item-test m a some) in
    let inner = and_parts (not (is_skip (role_of m.info a))) (item_start m a == a) outer.1 in
    let at = within m a outer.0 in
    let shown = not-true (is_skip (role_of m.info a)) inner.0 in
    let own = eqb-true (item_start m a) a inner.1 in
    record { inside = outer.0; low = at.low; high = at.high; shown = shown; own = own; len = item-len-own m a outer.0 shown own }

-- where the item begins that an address of the image belongs to, its length is known
pub start-len : (m : MapView) (a : ℕ) → is_inside m.image a ≡ true → is_skip (role_of m.info a) ≡ false → item_len m (item_start m a) ≡ size_at m (item_start m a)
start-len m a inside shown =
    let h = belongs m a in
    ⊎_elim
    (λ same. item-len-own m (item_start m a) (ap (is_inside m.image) same ∙ inside) (ap (λ n. is_skip (role_of m.info n)) same ∙ shown) h.own)
    (λ other.
    let first : m.image.start < item_start m a + 1 = omega (arith, (joined-in m (item_start m a + 1) (start-piece m a (item_start m a + 1) (omega arith) (omega (arith, h.low, other)))).low) in
    item-len-own m (item_start m a) (inside-if m (item_start m a) (omega (arith, first)) (omega (arith, h.low, (within m a inside).high))) (sym (ap is_skip (one-role m (item_start m a) a h.low (start-piece m a))) ∙ shown) h.own)
    (cases_eq (item_start m a) a)

-- ---- the law

-- the item that ends just before a joined address where an item begins
ends-before : (m : MapView) (a : ℕ) → Begun m (suc a) → is_joined m (suc a) ≡ true → EndsBefore m (item_len m) (suc a)
ends-before m a is joined =
    let here = joined-in m (suc a) joined in
    let h = belongs m a in
    let before : a ≡ suc a - 1 = omega arith in
    let role : role_of m.info a ≡ role_of m.info (suc a) = ap (role_of m.info) before ∙ here.same in
    let len = start-len m a (inside-if m a (omega (arith, here.low)) (omega (arith, here.high))) (ap is_skip role ∙ is.shown) in
    let past : item_start m a + size_at m (item_start m a) ≤ suc a =
    ⊎_elim
    (λ over. absurd (omega (arith, is.own, item_start-further m a over joined, h.low)))
    (λ past. past)
    (cases_lt (suc a) (item_start m a + size_at m (item_start m a))) in
    record {
      item = item_start m a;
      begins = omega (arith, len, size-positive m (item_start m a));
      ends = omega (arith, len, past, h.high);
      piece = λ x low high. ⊎_elim (λ same. ap (is_joined m) same ∙ joined) (λ other. start-piece m a x low (omega (arith, other))) (cases_eq x (suc a));
    }

item-then : (m : MapView) (a : ℕ) → 0 < item_len m a → CanBegin m (item_len m) a
item-then m zero some = let is = begun m 0 some in record { inside = is.inside; shown = is.shown; place = inl (inl (omega (arith, is.low))) }
item-then m (suc a) some =
    let is = begun m (suc a) some in
    record { inside = is.inside; shown = is.shown; place = ⊎_elim (λ joined. inr (ends-before m a is joined)) (λ apart. inl (inr apart)) (cases_Bool (is_joined m (suc a))) }

item-if : (m : MapView) (a : ℕ) → CanBegin m (item_len m) a → 0 < item_len m a
item-if m a is = grind (arith, item_start-apart, start-apart, begun, item_start-after, item-len-own, size-positive)

-- ---- how long it is

piece-joined : (m : MapView) (n a : ℕ) → AreOnePiece m a (a + n) → are_joined m n a ≡ true
unfolding are_joined
piece-joined m zero a piece = refl
piece-joined m (suc n) a piece =
    and_from _ _ (piece (a + 1) (omega arith) (omega arith)) (piece-joined m n (a + 1) (λ x low high. piece x (omega (arith, low)) (omega (arith, high))))

pub size_whole : (m : MapView) (a : ℕ) → AreOnePiece m a (a + full_len_at m a - 1) → size_at m a ≡ full_len_at m a
unfolding size_at
size_whole m a piece = grind (arith, piece-joined)

pub size_cut : (m : MapView) (a : ℕ) → (AreOnePiece m a (a + full_len_at m a - 1) → ⊥) → size_at m a ≡ 1
unfolding size_at
size_cut m a apart = grind (arith, joined-piece)

counted : (m : MapView) → AreItems m (item_len m)
counted m = grind (arith, item-then, item-if, begun, size_whole, size_cut)

-- ---- no others

moved : (m : MapView) (len other : ℕ → ℕ) (a : ℕ) → ((b : ℕ) → b < a → len b ≡ other b) → CanBegin m len a → CanBegin m other a
moved m len other a same is = grind arith

same-len : (m : MapView) (len other : ℕ → ℕ) → AreItems m len → AreItems m other → (a : ℕ) → ((b : ℕ) → b < a → len b ≡ other b) → len a ≡ other a
same-len m len other are are_too a same = grind arith

same-below : (m : MapView) (len other : ℕ → ℕ) → AreItems m len → AreItems m other → (n a : ℕ) → a < n → len a ≡ other a
same-below m len other are are_too zero a below = absurd (omega arith)
same-below m len other are are_too (suc n) a below =
    same-len m len other are are_too a (λ b before. same-below m len other are are_too n b (omega arith))

pub item_law : (m : MapView) → ItemLaw m
item_law m = record { items = counted m; only = λ len are a. same-below m len (item_len m) are (counted m) (suc a) a (omega arith) }
