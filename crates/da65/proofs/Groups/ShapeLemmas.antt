-- The bytes of a group, by its role.
use Rattle.std.proofs.Common.{◌≡◌, ◌∙◌, ◌⊎◌, inl, inr, ℕ, zero, suc, ◌+◌, ◌-◌, ◌*◌, ◌%◌, ◌<◌, ◌≤◌, Bool, true, false, List, ◌∷◌, length, take, drop, Option, Some, None, refl, ap, sym, subst, arith, length-drop, []}
use Rattle.std.specs.Prelude.{slice_index}
use Rattle.std.proofs.lemmas.Bool.{cond-true, cond-false, cond_both, eqb-true, leb-true, leb-false, eq-eqb, true≢false}
use Rattle.std.proofs.Math.Nat.{mul-le-mul_right, mul-mod_left}
use Rattle.std.proofs.lemmas.List.{get_or-drop, get_or-take, length-take-le}
use Rattle.isa65.specs.Words.{Table, decoded}
use Rattle.isa65.proofs.ModeLaws.{len-positive}
use Rattle.da65.specs.Words.{AreEntries, GroupsAreGroups, IsGroup, IsGroupOf, IsGroupPlace, Op, RangeType, goes_on, group_bytes, group_len, instruction_in, is_whole, limit_at, limit_of, more_at, whole_in}
use Rattle.info65.proofs.Public.{layout_line}
use Rattle.info65.specs.declared.information.range.RangeType.TheVariants as role
use Rattle.map65.specs.Words.{MapView, byte_at, bytes_from, code_size, full_len_at, is_joined, is_skip, item_len, opcodes, role_of, size_at, size_for, unit_of}
use Rattle.map65.proofs.Public.{begun as item-begun, item-len-at, joined-in, one-role, size-one-piece, size-positive}
use Rattle.da65.proofs.Groups.GroupLemmas.{group-begun, group-fits, group-some, item-goes-on, more-false, more-none, more-true, place-of}
use Rattle.da65.proofs.Groups.StepLemmas.{group_one}

-- ---- the bytes from an address on

-- the bytes from the k-th on
pub from-index : (m : MapView) (k : ℕ) → bytes_from m.image (m.image.start + k) ≡ drop k m.image.bytes
from-index m k = let same : m.image.start + k - m.image.start ≡ k = omega arith in rw same refl

-- the bytes of a group that begins with the k-th byte
pub group-index : (m : MapView) (k : ℕ) → group_bytes m (m.image.start + k) ≡ take (group_len m (m.image.start + k)) (drop k m.image.bytes)
group-index m k = ap (take (group_len m (m.image.start + k))) (from-index m k)

pub group-long : (m : MapView) (k : ℕ) → k + group_len m (m.image.start + k) ≤ length m.image.bytes → length (group_bytes m (m.image.start + k)) ≡ group_len m (m.image.start + k)
group-long m k fits = grind (arith, length-take-le, length-drop)

-- ---- code

whole-size : (count : ℕ) (o : Option Op) → ((count ≡ code_size o) ⊎ (count ≡ 1)) → code_size (whole_in count o) ≡ count
whole-size count None (inl e) = sym e
whole-size count None (inr e) = sym e
whole-size count (Some op) h = grind (arith, cond_both, leb-true, leb-false, len-positive)

-- an instruction that has all of its bytes, or one byte
instruction-size : (t : Table) (bytes : List ℕ) → 0 < length bytes → ((length bytes ≡ code_size (decoded t (slice_index bytes 0))) ⊎ (length bytes ≡ 1)) → code_size (instruction_in t bytes) ≡ length bytes
unfolding instruction_in
instruction-size t [] some h = absurd (omega (arith, some))
instruction-size t (b ∷ bytes) some h = whole-size (length (b ∷ bytes)) (decoded t b) h

-- ---- tables

-- the byte after an item that lies in its piece has its role
pub role-past : (m : MapView) (a len : ℕ) → len ≡ size_at m a → is_joined m (a + len) ≡ true → role_of m.info (a + len) ≡ role_of m.info a
role-past m a len same joined =
    let some : 1 ≤ size_at m a = size-positive m a in
    let place : a + len - 1 ≡ a + size_at m a - 1 = omega (arith, same) in
    sym (joined-in m (a + len) joined).same ∙ ap (role_of m.info) place ∙ one-role m a (a + size_at m a - 1) (omega (arith, some)) (size-one-piece m a)

-- so many items go on, each as long as those of the role
record Many (m : MapView) (n a : ℕ) (r : RangeType) : Type 0 where
  count : ℕ
  bound : count ≤ n
  is : more_at m n a ≡ count * unit_of r

many-none : (m : MapView) (n a : ℕ) (r : RangeType) → more_at m n a ≡ 0 → Many m n a r
many-none m n a r none = record { count = 0; bound = omega arith; is = omega (arith, none) }

pub one-more : (x u c more : ℕ) → x ≡ u → more ≡ c * u → x + more ≡ suc c * u
one-more x u c more e f = rw (e, f) (omega arith)

many : (m : MapView) (n a : ℕ) (r : RangeType) → (is_joined m a ≡ true → role_of m.info a ≡ r) → Many m n a r
many m zero a r same = many-none m 0 a r (more-none m a)
many m (suc n) a r same = go (goes_on m a) refl (many m n)
  where
    go : (t : Bool) → goes_on m a ≡ t → ((a : ℕ) (r : RangeType) → (is_joined m a ≡ true → role_of m.info a ≡ r) → Many m n a r) → Many m (suc n) a r
    go false is past = many-none m (suc n) a r (more-false m n a is)
    go true is past =
        let item = item-goes-on m a is in
        let role-is : role_of m.info a ≡ r = same item.joined in
        let whole : item_len m a ≡ unit_of r = item.whole ∙ ap unit_of role-is in
        let others = past (a + item_len m a) r (λ joined. role-past m a (item_len m a) (item-begun m a item.some).len joined ∙ role-is) in
        record { count = suc others.count; bound = omega (arith, others.bound); is = more-true m n a is ∙ one-more (item_len m a) (unit_of r) others.count _ whole others.is }

-- as many bytes as one and `count` further items of the role have
record Counted (r : RangeType) (len : ℕ) : Type 0 where
  count : ℕ
  bound : count ≤ limit_of r - 1
  is : len ≡ suc count * unit_of r

-- items of a table, or a byte that is left over
abbrev IsLong : RangeType → ℕ → Type 0
IsLong r len = (len ≡ 1) ⊎ Counted r len

pub size-is : (m : MapView) (a : ℕ) → (size_at m a ≡ full_len_at m a) ⊎ (size_at m a ≡ 1)
unfolding size_at
size-is m a = grind arith

pub full_len-of : (m : MapView) (a : ℕ) (r : RangeType) → role_of m.info a ≡ r → full_len_at m a ≡ size_for m r (byte_at m.image a)
unfolding full_len_at
full_len-of m a r e = ap (λ (r : RangeType). size_for m r (byte_at m.image a)) e

-- of a role whose items all have the same size
table-long : (m : MapView) (a : ℕ) (r : RangeType) → role_of m.info a ≡ r → full_len_at m a ≡ unit_of r → item_len m a ≡ size_at m a → IsLong r (group_len m a)
unfolding group_len
table-long m a r e full_len begun = go (is_whole m a) refl
  where
    single : (size_at m a ≡ full_len_at m a) ⊎ (size_at m a ≡ 1) → is_whole m a ≡ false → item_len m a ≡ 1
    single (inr one) h = begun ∙ one
    single (inl whole) h = absurd (true≢false (sym (eq-eqb (item_len m a) (unit_of (role_of m.info a)) (begun ∙ whole ∙ full_len ∙ sym (ap unit_of e))) ∙ h))

    go : (t : Bool) → is_whole m a ≡ t → IsLong r (item_len m a + more_at m (limit_at m a - 1) (a + item_len m a))
    go false h = inl (group_one m a (cond-false (is_whole m a) _ _ h) ∙ single (size-is m a) h)
    go true h =
        let unit : item_len m a ≡ unit_of r = eqb-true (item_len m a) (unit_of (role_of m.info a)) h ∙ ap unit_of e in
        let others = many m (limit_at m a - 1) (a + item_len m a) r (λ joined. role-past m a (item_len m a) begun joined ∙ e) in
        let limit : limit_at m a ≡ limit_of r = cond-true (is_whole m a) _ _ h ∙ ap limit_of e in
        inr (record { count = others.count; bound = omega (arith, others.bound, limit); is = one-more (item_len m a) (unit_of r) others.count _ unit others.is })

-- an instruction stands alone
pub limit-code : (m : MapView) (a : ℕ) → role_of m.info a ≡ role.Code → limit_at m a ≡ 1
limit-code m a e = cond_both (is_whole m a) (limit_of (role_of m.info a)) 1 (λ n. n ≡ 1) (λ _. ap limit_of e) (λ _. refl)

either : {len size full_len code code' : ℕ} → len ≡ size → code ≡ code' → full_len ≡ code → (size ≡ full_len) ⊎ (size ≡ 1) → (len ≡ code') ⊎ (len ≡ 1)
either e f g (inl h) = inl (e ∙ h ∙ g ∙ f)
either e f g (inr h) = inr (e ∙ h)

-- ---- the bytes of each group

byte-first : (m : MapView) (k n : ℕ) → 1 ≤ n → slice_index (take n (drop k m.image.bytes)) 0 ≡ byte_at m.image (m.image.start + k)
byte-first m k n some = grind (arith, get_or-take, get_or-drop)

module _ (m : MapView) (k : ℕ) (here : IsGroupPlace m k) (low : k < length m.image.bytes) (shown : is_skip (role_of m.info (m.image.start + k)) ≡ false) where
  begun : item_len m (m.image.start + k) ≡ size_at m (m.image.start + k)
  begun = item-len-at m k low shown here.item

  long : length (group_bytes m (m.image.start + k)) ≡ group_len m (m.image.start + k)
  long = group-long m k (group-fits m k here low shown)

  entries : (r : RangeType) → IsLong r (group_len m (m.image.start + k)) → AreEntries (unit_of r) (limit_of r) (group_bytes m (m.image.start + k))
  entries r (inl one) = inl (long ∙ one)
  entries r (inr some) =
      let all : length (group_bytes m (m.image.start + k)) ≡ suc some.count * unit_of r = long ∙ some.is in
      let high : suc some.count * unit_of r ≤ limit_of r * unit_of r = mul-le-mul_right (unit_of r) (omega (arith, some.bound, layout_line r)) in
      inr (ap (λ (n : ℕ). n % unit_of r) all ∙ mul-mod_left (suc some.count) (unit_of r), omega (arith, all, high))

  code : role_of m.info (m.image.start + k) ≡ role.Code → code_size (instruction_in (opcodes m) (group_bytes m (m.image.start + k))) ≡ length (group_bytes m (m.image.start + k))
  code e =
      let a : ℕ = m.image.start + k in
      let some : 1 ≤ group_len m a = group-some m k here low shown in
      let first : slice_index (group_bytes m a) 0 ≡ byte_at m.image a = ap (λ (bytes : List ℕ). slice_index bytes 0) (group-index m k) ∙ byte-first m k (group_len m a) some in
      let size : length (group_bytes m a) ≡ size_at m a = long ∙ group_one m a (limit-code m a e) ∙ begun in
      instruction-size (opcodes m) (group_bytes m a) (omega (arith, long, some)) (either size (sym (ap (λ (b : ℕ). code_size (decoded (opcodes m) b)) first)) (full_len-of m a role.Code e) (size-is m a))

  pub group-shape : IsGroupOf (opcodes m) (role_of m.info (m.image.start + k)) (group_bytes m (m.image.start + k))
  group-shape = go (role_of m.info (m.image.start + k)) refl
    where
      go : (r : RangeType) → role_of m.info (m.image.start + k) ≡ r → IsGroupOf (opcodes m) r (group_bytes m (m.image.start + k))
      go role.Code e = code e
      go role.Skip e = absurd (true≢false (sym (ap is_skip e) ∙ shown))
      go r e = entries r (table-long m (m.image.start + k) r e (full_len-of m (m.image.start + k) r e) begun)

-- ---- the law

group_at : (m : MapView) (a k : ℕ) → a ≡ m.image.start + k → IsGroupPlace m k → k < length m.image.bytes → is_skip (role_of m.info (m.image.start + k)) ≡ false → IsGroup m (m.image.start + k)
group_at m a k e here low shown =
    let long = group-long m k (group-fits m k here low shown) in
    record {
      some = omega (arith, long, group-some m k here low shown);
      long = long;
      room = omega (arith, group-fits m k here low shown);
      of = group-shape m k here low shown;
    }

pub groups_are_groups : GroupsAreGroups
groups_are_groups m a is =
    let known = group-begun m a is in
    let k : ℕ = a - m.image.start in
    let place : m.image.start + k ≡ a = omega (arith, known.low) in
    subst (IsGroup m) place (group_at m a k (sym place) (place-of m a is) (omega (arith, known.low, known.high)) (ap (λ (a : ℕ). is_skip (role_of m.info a)) place ∙ known.shown))
