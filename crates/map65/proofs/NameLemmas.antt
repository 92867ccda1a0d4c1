-- The name of one address.
use Rattle.std.proofs.Common.{◌≡◌, ◌∙◌, ℕ, ◌+◌, ◌≤◌, ◌||◌, Bool, true, false, List, [], ◌∷◌, Option, Some, None, length, nat_le, nat_lt, is_some, refl, ap, sym, arith}
use Rattle.std.specs.Option.{option_map}
use Rattle.std.proofs.lemmas.Bool.{and_parts, false≢true, leb-true}
use Rattle.text65.specs.Names.{has_name_form}
use Rattle.info65.specs.Words.{AreNames, NameView, blank_name, covering, name_at}
use Rattle.info65.proofs.Public.{last_name}
use Rattle.map65.specs.Words.{Base, MapView, NameKind, base_at, base_by, base_or, default_base, entry_base, entry_start, given_base, has_name, is_covered, is_referenced, kind_at, kind_by, text_at, text_by}

pub not-some : {A : Type 0} (b : A) → None ≡ Some b → ⊥
not-some b is = false≢true (ap is_some is)

-- its own address is not after the address
pub name-low : (names : List NameView) (a : ℕ) (v : NameView) → covering names a ≡ Some v → v.address ≤ a
name-low names a v is =
    let r = last_name names a v is in
    let n : NameView = name_at names r.index in
    let low = leb-true n.address a (and_parts (nat_le n.address a) (nat_lt a (n.address + n.size)) r.covers_it).0 in
    omega (arith, low, ap (λ (x : NameView). x.address) r.is)

form-short : (text : List ℕ) → has_name_form text ≡ true → length text ≤ 80
unfolding has_name_form
form-short [] is = omega arith
form-short (b ∷ bs) is = grind arith

-- and its text has at most 80 bytes
pub name-short : (names : List NameView) (a : ℕ) (v : NameView) → AreNames names → covering names a ≡ Some v → length v.text ≤ 80
name-short names a v are is =
    let r = last_name names a v is in
    omega (arith, ap (λ (x : NameView). length x.text) r.is, form-short (name_at names r.index).text (are.each r.index blank_name r.low).form)

-- ---- the base of an address

pub base-covered : (m : MapView) (a : ℕ) (v : NameView) → covering m.info.names a ≡ Some v → base_at m a ≡ Some (given_base v)
unfolding base_at
base-covered m a v is = ap (λ o. base_by o (is_referenced m a) (entry_base m a)) is

pub base-referenced : (m : MapView) (a : ℕ) → covering m.info.names a ≡ None → is_referenced m a ≡ true → base_at m a ≡ Some (entry_base m a)
unfolding base_at
base-referenced m a is referenced = ap (λ o. base_by o (is_referenced m a) (entry_base m a)) is ∙ ap (λ (w : Bool). base_by None w (entry_base m a)) referenced

pub base-unreferenced : (m : MapView) (a : ℕ) → covering m.info.names a ≡ None → is_referenced m a ≡ false → base_at m a ≡ None
unfolding base_at
base-unreferenced m a is unreferenced = ap (λ o. base_by o (is_referenced m a) (entry_base m a)) is ∙ ap (λ (w : Bool). base_by None w (entry_base m a)) unreferenced

some-base : (o : Option NameView) (w : Bool) (b : Base) (kind : Base → NameKind) → is_some (option_map kind (base_by o w b)) ≡ (is_some o || w)
some-base None true b kind = refl
some-base None false b kind = refl
some-base (Some v) w b kind = refl

-- an address has a name exactly when a given name covers it or an item refers to it
pub named-is : (m : MapView) (a : ℕ) → has_name m a ≡ (is_covered m.info.names a || is_referenced m a)
unfolding has_name kind_at base_at
named-is m a = some-base (covering m.info.names a) (is_referenced m a) (entry_base m a) (kind_by m a)

none-of : (o : Option Base) (kind : Base → NameKind) → is_some (option_map kind o) ≡ false → o ≡ None
none-of None kind is = refl
none-of (Some b) kind is = absurd (false≢true (sym is))

-- an address without a name
pub base-none : (m : MapView) (a : ℕ) → has_name m a ≡ false → base_at m a ≡ None
unfolding has_name kind_at
base-none m a is = none-of (base_at m a) (kind_by m a) is

-- one with a name that is not given
pub base_entry_start : (m : MapView) (a : ℕ) → has_name m a ≡ true → covering m.info.names a ≡ None → base_at m a ≡ Some (entry_base m a)
base_entry_start m a is none = let referenced = rw (named-is m a, none) at is in base-referenced m a none referenced

pub entry_start_given : (m : MapView) (a : ℕ) (v : NameView) → covering m.info.names (entry_start m a) ≡ Some v → entry_base m a ≡ given_base v
unfolding entry_base
entry_start_given m a v is = ap (λ o. base_or o (default_base (entry_start m a))) is

pub entry_start_default : (m : MapView) (a : ℕ) → covering m.info.names (entry_start m a) ≡ None → entry_base m a ≡ default_base (entry_start m a)
unfolding entry_base
entry_start_default m a is = ap (λ o. base_or o (default_base (entry_start m a))) is

-- ---- what a caller is told of it

pub kind_of : (m : MapView) (a : ℕ) (o : Option Base) → base_at m a ≡ o → kind_at m a ≡ option_map (kind_by m a) o
unfolding kind_at
kind_of m a o is = ap (option_map (kind_by m a)) is

pub text_of : (m : MapView) (a : ℕ) (o : Option Base) → base_at m a ≡ o → text_at m a ≡ text_by o
unfolding text_at
text_of m a o is = ap text_by is
