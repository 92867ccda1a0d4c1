-- Roles, items and pieces, by what a map tells.
use Rattle.std.proofs.Common.{◌≡◌, ◌∙◌, ℕ, ◌<◌, ◌≤◌, ◌&&◌, ◌==◌, not, Bool, true, false, Option, Some, None, refl, ap, sym, arith}
use Rattle.std.proofs.lemmas.List.{get_or_default}
use Rattle.std.proofs.lemmas.List.Folds.{Any-from_list_any}
use Rattle.std.proofs.lemmas.Bool.{both_ways, cond-false, cond-true, eq-eqb, eqb-true, false_from_ne_true}
use Rattle.info65.proofs.Public.{own_address_wins}
use Rattle.info65.specs.Words.{AreNames, NameView, blank_name, covering, name_at}
use Rattle.da65.specs.Words.{RangeType, goes_on, is_defined, is_whole}
use Rattle.map65.specs.Words.{Base, IsPlaced, MapView, is_in_run, is_inside, is_joined, is_own, is_wide, item_len, role_at, role_of}
use Rattle.map65.proofs.Public.{base-covered, has-role, in-run, inside-if, within}
use Rattle.da65.specs.BaseNames as base_names

-- ---- inside the image

-- no address after $FFFF lies in the image
outside : (m : MapView) (a : ℕ) → IsPlaced m.image → 65536 ≤ a → is_inside m.image a ≡ false
outside m a placed far = false_from_ne_true (is_inside m.image a) (λ is. omega (arith, far, placed.room, (within m a is).high))

-- ---- what the role of an address tells

pub role_some : (m : MapView) (a : ℕ) (r : RangeType) → role_at m a ≡ Some r → role_of m.info a ≡ r
role_some m a r is = (has-role m a r is).is

pub role_there : (m : MapView) (a : ℕ) → is_inside m.image a ≡ true → role_at m a ≡ Some (role_of m.info a)
unfolding role_at
role_there m a is = cond-true (is_inside m.image a) _ _ is

role_none : (m : MapView) (a : ℕ) → role_at m a ≡ None → is_inside m.image a ≡ false
unfolding role_at
role_none m a = grind arith

pub role_outside : (m : MapView) (a : ℕ) → IsPlaced m.image → 65536 ≤ a → role_at m a ≡ None
unfolding role_at
role_outside m a placed far = cond-false (is_inside m.image a) _ _ (outside m a placed far)

pub item_outside : (m : MapView) (a : ℕ) → IsPlaced m.image → 65536 ≤ a → item_len m a ≡ 0
unfolding item_len
item_outside m a placed far = rw (outside m a placed far) refl

-- ---- runs

-- no address outside the image lies in the run of another
run-outside : (m : MapView) (a : ℕ) → role_at m a ≡ None → is_in_run m a ≡ false
run-outside m a none =
    false_from_ne_true (is_in_run m a) (λ is. let run = in-run m a is in both_ways (is_inside m.image a) (role_none m a none) (inside-if m a (omega (arith, run.low)) run.high))

-- ---- items that go on

-- a given name defines its own address
own-defined : (m : MapView) (a : ℕ) → AreNames m.info.names → is_own m.info.names a ≡ true → is_defined m a ≡ true
unfolding is_own
own-defined m a are is =
    let found = Any-from_list_any (λ (n : NameView). n.address == a) m.info.names is in
    let name : name_at m.info.names found.0 ≡ found.1 = get_or_default m.info.names found.0 blank_name found.1 found.2 ∙ found.3 in
    let here : found.1.address ≡ a = eqb-true found.1.address a found.4 in
    let wins : covering m.info.names a ≡ Some found.1 =
    sym (ap (covering m.info.names) (ap (λ (n : NameView). n.address) name ∙ here)) ∙ own_address_wins m.info.names are found.0 found.2 ∙ ap (λ (n : NameView). Some n) name in
    ap (λ (o : Option Base). base_names.is_own a o) (base-covered m a found.1 wins) ∙ eq-eqb found.1.address a here

goes-by : (r wide own whole named : Bool) → (own ≡ true → named ≡ true) → ((r && not (wide && own)) && (whole && not named)) ≡ (r && (whole && not named))
goes-by true true true true false known = absurd (let no : false ≡ true = known refl in cc)
goes-by _ _ _ _ _ known = refl

-- the item at an address of a run goes on if it is whole and not defined by name
pub goes_run : (m : MapView) (a : ℕ) → AreNames m.info.names → goes_on m a ≡ (is_in_run m a && (is_whole m a && not (is_defined m a)))
unfolding goes_on is_joined
goes_run m a are = goes-by (is_in_run m a) (is_wide (role_of m.info a)) (is_own m.info.names a) (is_whole m a) (is_defined m a) (own-defined m a are)

-- no item after the image goes on
pub outside_stops : (m : MapView) (a : ℕ) → AreNames m.info.names → role_at m a ≡ None → goes_on m a ≡ false
outside_stops m a are none = goes_run m a are ∙ rw (run-outside m a none) refl

pub role_low : (m : MapView) (a : ℕ) (r : RangeType) → IsPlaced m.image → role_at m a ≡ Some r → a < 65536
role_low m a r placed is = omega (arith, placed.room, (has-role m a r is).high)
