-- The laws of base names.
use Rattle.std.proofs.Common.{◌≡◌, ◌∙◌, ◌⊎◌, inl, inr, ℕ, ◌<◌, ◌≤◌, Bool, true, false, List, Option, Some, None, length, nat_lt, refl, ap, ap₂, sym, arith, ⊎_elim}
use Rattle.std.proofs.lemmas.Slice.Eq.{bytes_eq-Decides}
use Rattle.std.proofs.lemmas.Bool.{and_from, both_ways, cases_eq, false_from_ne_true}
use Rattle.std.proofs.lemmas.Bool.Decides.{nat_tests}
use Rattle.text65.specs.Digits.{hex_digit}
use Rattle.info65.proofs.Public.{last_name, layout_some, own_address_wins, like_default}
use Rattle.info65.specs.Words.{AreNames, NameView, blank_name, covering, default_name, is_reserved, name_at}
use Rattle.map65.specs.Words.{Base, BaseLaw, Code, IsInCode, IsInner, LiesBy, MapView, PlaceLaw, RangeType, base_at, base_by, byte_at, default_base, entry_base, entry_start, full_len_at, given_base, is_inside, is_joined, is_own, is_referenced, is_skip, is_wide, item_len, item_start, place_of, role_at, role_of, size_at, size_for, unit_of}
use Rattle.map65.proofs.ItemLaws.{begun, item_law}
use Rattle.map65.proofs.ItemLemmas.{is_cut_at, joined-uncut, one-size}
use Rattle.map65.proofs.NameLemmas.{base-covered, base-referenced, entry_start_default, entry_start_given, name-low, not-some}
use Rattle.map65.proofs.NameLaws.{entry_start-entry_start, entry_start-inner, entry_start-referenced, under}
use Rattle.map65.proofs.NamingLemmas.{entry_start_low, wide-shown}
use Rattle.map65.proofs.PieceLaws.{own-some}

-- ---- where a base comes from

-- from a name that is given
record FromName (m : MapView) (a : ℕ) (b : Base) : Type 0 where
  index : ℕ
  bound : index < length m.info.names
  low : b.address ≤ a
  text : b.text ≡ (name_at m.info.names index).text
  address : b.address ≡ (name_at m.info.names index).address

-- or from an address that is referenced
record FromAddress (m : MapView) (a : ℕ) (b : Base) : Type 0 where
  low : b.address ≤ a
  none : covering m.info.names b.address ≡ None
  referenced : is_referenced m b.address ≡ true
  start_is : entry_start m b.address ≡ b.address
  text : b.text ≡ default_name b.address

some-base : (b c : Base) → Some b ≡ Some c → b ≡ c
some-base b c is = cc

from-name : (m : MapView) (a at : ℕ) (b : Base) (v : NameView) → at ≤ a → covering m.info.names at ≡ Some v → given_base v ≡ b → FromName m a b
from-name m a at b v low covers_it is =
    let r = last_name m.info.names at v covers_it in
    let same : b ≡ given_base (name_at m.info.names r.index) = sym is ∙ ap given_base r.is in
    record { index = r.index; bound = r.low; low = omega (arith, ap (λ (x : Base). x.address) is, name-low m.info.names at v covers_it, low); text = ap (λ (x : Base). x.text) same; address = ap (λ (x : Base). x.address) same }

from-entry_start : (m : MapView) (a : ℕ) (b : Base) → is_referenced m a ≡ true → entry_base m a ≡ b → (o : Option NameView) → covering m.info.names (entry_start m a) ≡ o → FromName m a b ⊎ FromAddress m a b
from-entry_start m a b referenced is (Some v) covers_it = inl (from-name m a (entry_start m a) b v (entry_start_low m a) covers_it (sym (entry_start_given m a v covers_it) ∙ is))
from-entry_start m a b referenced is None none = grind (arith, entry_start_default, entry_start_low, entry_start-referenced, entry_start-entry_start)

from : (m : MapView) (a : ℕ) (b : Base) (o : Option NameView) (w : Bool) → covering m.info.names a ≡ o → is_referenced m a ≡ w → base_by o w (entry_base m a) ≡ Some b → FromName m a b ⊎ FromAddress m a b
from m a b (Some v) w covers_it referenced is = inl (from-name m a a b v (omega arith) covers_it (some-base _ b is))
from m a b None true none referenced is = from-entry_start m a b referenced (some-base _ b is) (covering m.info.names (entry_start m a)) refl
from m a b None false none referenced is = absurd (not-some b is)

source : (m : MapView) (a : ℕ) (b : Base) → base_at m a ≡ Some b → FromName m a b ⊎ FromAddress m a b
unfolding base_at
source m a b is = from m a b (covering m.info.names a) (is_referenced m a) refl refl is

base-low : (m : MapView) (a : ℕ) (b : Base) → base_at m a ≡ Some b → b.address ≤ a
base-low m a b is = ⊎_elim (λ n. n.low) (λ d. d.low) (source m a b is)

-- ---- a base names its own address

abbrev make : List ℕ → ℕ → Base
make text address = record { text = text; address = address }

base-own : (m : MapView) → AreNames m.info.names → (a : ℕ) (b : Base) → base_at m a ≡ Some b → base_at m b.address ≡ Some b
base-own m are a b is =
    ⊎_elim
    (λ n.
    base-covered m b.address (name_at m.info.names n.index) (ap (covering m.info.names) n.address ∙ own_address_wins m.info.names are n.index n.bound)
    ∙ ap (λ (x : Base). Some x) (sym (ap₂ make n.text n.address)))
    (λ d.
    base-referenced m b.address d.none d.referenced
    ∙ ap (λ (x : Base). Some x) (entry_start_default m b.address (ap (covering m.info.names) d.start_is ∙ d.none) ∙ ap default_base d.start_is ∙ ap (λ t. make t b.address) (sym d.text)))
    (source m a b is)

-- ---- one text, one base

digit-same : (a b : ℕ) → a < 16 → b < 16 → hex_digit a ≡ hex_digit b → a ≡ b
digit-same a b low also_low is = grind (arith, nat_tests)

pub default-same : (u v : ℕ) → u < 65536 → v < 65536 → default_name u ≡ default_name v → u ≡ v
unfolding default_name
default-same u v low also_low is = grind (arith, digit-same)

-- a name of the form of a default name stands for its own address
reserved-same : (address v : ℕ) (text : List ℕ) → address < 65536 → v < 65536 → is_reserved address text ≡ false → text ≡ default_name v → address ≡ v
unfolding is_reserved
reserved-same address v text low also_low unreserved is = grind (arith, like_default, default-same, bytes_eq-Decides)

same-name : (names : List NameView) → AreNames names → (i j : ℕ) → i < length names → j < length names → (name_at names i).text ≡ (name_at names j).text → name_at names i ≡ name_at names j
same-name names are i j low also_low is = grind arith

-- a name that is given is not the default name of another address
name-default : (m : MapView) (a c : ℕ) (b d : Base) → AreNames m.info.names → c < 65536 → FromName m a b → FromAddress m c d → b.text ≡ d.text → b.address ≡ d.address
name-default m a c b d are low n f is = grind (arith, reserved-same)

name-name : (m : MapView) (a c : ℕ) (b d : Base) → AreNames m.info.names → FromName m a b → FromName m c d → b.text ≡ d.text → b.address ≡ d.address
name-name m a c b d are n o is = n.address ∙ ap (λ (v : NameView). v.address) (same-name m.info.names are n.index o.index n.bound o.bound (sym n.text ∙ is ∙ o.text)) ∙ sym o.address

default-default : (m : MapView) (a c : ℕ) (b d : Base) → a < 65536 → c < 65536 → FromAddress m a b → FromAddress m c d → b.text ≡ d.text → b.address ≡ d.address
default-default m a c b d low also_low e f is = default-same b.address d.address (omega (arith, e.low, low)) (omega (arith, f.low, also_low)) (sym e.text ∙ is ∙ f.text)

same-address : (m : MapView) (a c : ℕ) (b d : Base) → AreNames m.info.names → a < 65536 → c < 65536 → FromName m a b ⊎ FromAddress m a b → FromName m c d ⊎ FromAddress m c d → b.text ≡ d.text → b.address ≡ d.address
same-address m a c b d are low also_low (inl n) (inl o) is = name-name m a c b d are n o is
same-address m a c b d are low also_low (inl n) (inr f) is = name-default m a c b d are also_low n f is
same-address m a c b d are low also_low (inr e) (inl o) is = sym (name-default m c a d b are low o e (sym is))
same-address m a c b d are low also_low (inr e) (inr f) is = default-default m a c b d low also_low e f is

base-distinct : (m : MapView) → AreNames m.info.names → (a c : ℕ) (b d : Base) → a < 65536 → c < 65536 → base_at m a ≡ Some b → base_at m c ≡ Some d → b.text ≡ d.text → b ≡ d
base-distinct m are a c b d low also_low first second is = ap₂ make is (same-address m a c b d are low also_low (source m a b first) (source m c d second) is)

pub base_law : (m : MapView) → AreNames m.info.names → BaseLaw m
base_law m are = record { low = base-low m; own = base-own m are; distinct = base-distinct m are }

-- ---- where a base lies

-- in a table with entries of more than one byte an item begins at each base
abbrev IsFree : MapView → ℕ → Type 0
IsFree m n = is_inside m.image n ≡ true → is_wide (role_of m.info n) ≡ true → 0 < item_len m n

named-free : (m : MapView) (n : ℕ) → is_own m.info.names n ≡ true → IsFree m n
named-free m n own inside wide =
    let apart : is_joined m n ≡ false = false_from_ne_true (is_joined m n) (λ joined. absurd (both_ways (is_cut_at m n) (joined-uncut m n joined) (and_from _ _ wide own))) in
    ((item_law m).items.begins n).1 (record { inside = inside; shown = wide-shown (role_of m.info n) wide; place = inl (inr apart) })

entry_start-free : (m : MapView) (n : ℕ) → entry_start m n ≡ n → IsFree m n
entry_start-free m n own inside wide =
    ⊎_elim
    (λ none.
    let u = under m n inside (wide-shown (role_of m.info n) wide) none in
    let inner : IsInner m n (item_start m n) = record { wide = wide; begins = u.begins; after = u.after; before = u.before } in
    absurd (omega (arith, entry_start-inner m n (item_start m n) inner, own, u.after)))
    (λ some. omega (arith, some))
    (cases_eq (item_len m n) 0)

base-free : (m : MapView) (a : ℕ) (b : Base) → base_at m a ≡ Some b → IsFree m b.address
base-free m a b is =
    ⊎_elim
    (λ n. named-free m b.address (own-some m.info.names b.address n.index blank_name n.bound (sym n.address)))
    (λ d. entry_start-free m b.address d.start_is)
    (source m a b is)

unit-one : (n : ℕ) → 1 ≤ n → nat_lt 1 n ≡ false → n ≡ 1
unit-one n some narrow = grind (arith, nat_tests)

-- elsewhere only items of code have more than one byte
code-or-byte : (m : MapView) (r : RangeType) → is_wide r ≡ false → (r ≡ Code) ⊎ ((b : ℕ) → size_for m r b ≡ 1)
code-or-byte m Code narrow = inl refl
code-or-byte m r narrow = inr (λ b. unit-one (unit_of r) (layout_some r) narrow)

in-code : (m : MapView) (n : ℕ) → is_inside m.image n ≡ true → is_skip (role_of m.info n) ≡ false → item_len m n ≡ 0 → is_wide (role_of m.info n) ≡ false → IsInCode m n
unfolding full_len_at
in-code m n inside shown none narrow =
    let u = under m n inside shown none in
    ⊎_elim
    (λ code. record { item = item_start m n; begins = u.begins; after = u.after; before = u.before; code = code })
    (λ one.
    let single : size_at m (item_start m n) ≡ 1 = one-size m (item_start m n) (sym (ap (λ (r : RangeType). size_for m r (byte_at m.image (item_start m n))) u.same) ∙ one (byte_at m.image (item_start m n))) in
    absurd (omega (arith, single, (begun m (item_start m n) u.begins).len, u.after, u.before)))
    (code-or-byte m (role_of m.info n) narrow)

-- its place says where it lies
lies : (m : MapView) (n : ℕ) → IsFree m n → LiesBy (place_of m n) m n
unfolding place_of role_at
lies m n unhidden = grind (arith, in-code)

pub place_law : (m : MapView) → PlaceLaw m
place_law m a b is = lies m b.address (base-free m a b is)
