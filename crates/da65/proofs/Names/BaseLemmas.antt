-- What a map tells of an address's name.
use Rattle.std.proofs.Common.{◌≡◌, ◌∙◌, ℕ, ◌-◌, ◌≤◌, ◌==◌, Bool, true, false, List, Option, Some, None, refl, ap, sym, subst, arith, ⊎_elim}
use Rattle.std.specs.Bool.{OnTrue}
use Rattle.std.specs.Option.{option_map}
use Rattle.std.proofs.lemmas.Bool.{cases_eq, eq-eqb, ne_eqb}
use Rattle.info65.specs.Words.{AreNames}
use Rattle.da65.specs.Words.{NameKind, RangeType, address_expr, base_name, constant_base, constant_offset, expr_from, is_base, is_constant, is_own, is_own_name, names_of, target_by, zero_page_expr}
use Rattle.map65.proofs.Public.{base-none, base_law}
use Rattle.map65.specs.Words.{Base, MapView, base_at, has_name, is_skip, kind_at, kind_by, place_in, place_of, role_at, text_at, text_by}
use Rattle.stmt65.specs.Words.{IsNameLong, TargetView}
use Rattle.stmt65.specs.Views as view
use Rattle.da65.proofs.Names.NameTexts.{base-text}

-- ---- the base of an address's name

-- the base, and what a map tells of it
record Named (m : MapView) (a : ℕ) (k : NameKind) : Type 0 where
  base : Base
  is : base_at m a ≡ Some base
  kind : kind_by m a base ≡ k

named : (m : MapView) (a : ℕ) (k : NameKind) → kind_at m a ≡ Some k → Named m a k
unfolding kind_at
named m a k is = grind arith

unnamed : (m : MapView) (a : ℕ) → kind_at m a ≡ None → base_at m a ≡ None
unfolding kind_at
unnamed m a is = grind arith

text_long : (m : MapView) (a : ℕ) (k : NameKind) → AreNames m.info.names → kind_at m a ≡ Some k → IsNameLong (text_at m a)
unfolding text_at
text_long m a k are is = let b = named m a k is in rw b.is (base-text m a b.base are b.is).long

pub text-base : (m : MapView) (a : ℕ) → text_at m a ≡ base_name (names_of m) a
unfolding text_at
text-base m a = refl

-- ---- the base that stands for an address

pub base_unnamed : (m : MapView) (a : ℕ) → has_name m a ≡ false → is_base (names_of m) a ≡ false
base_unnamed m a is = ap (is_own a) (base-none m a is)

own-here : (m : MapView) (a : ℕ) (o : Option Base) → ((b : Base) → o ≡ Some b → b.address ≤ a) → is_own_name (option_map (kind_by m a) o) ≡ is_own a o
own-here m a None low = refl
own-here m a (Some b) low =
    ⊎_elim
    (λ same.
    let first : (a - b.address == 0) ≡ true = eq-eqb (a - b.address) 0 (omega (arith, same)) in
    let second : (b.address == a) ≡ true = eq-eqb b.address a same in
    rw (first, second) refl)
    (λ other.
    let below = low b refl in
    let first : (a - b.address == 0) ≡ false = ne_eqb (a - b.address) 0 (λ is. other (omega (arith, is, below))) in
    let second : (b.address == a) ≡ false = ne_eqb b.address a other in
    rw (first, second) refl)
    (cases_eq b.address a)

pub base_own : (m : MapView) (a : ℕ) → AreNames m.info.names → is_own_name (kind_at m a) ≡ is_base (names_of m) a
unfolding kind_at
base_own m a are = own-here m a (base_at m a) (λ b is. (base_law m are).low a b is)

own-long : (m : MapView) (a : ℕ) (o : Option NameKind) → is_own_name o ≡ true → kind_at m a ≡ o → AreNames m.info.names → IsNameLong (text_at m a)
own-long m a None is e are = absurd cc
own-long m a (Some k) is e are = text_long m a k are e

-- what a buffer holds of it
pub put_text : (m : MapView) (a : ℕ) (t : Bool) (items : List ℕ) → items ≡ text_at m a → OnTrue t (items ≡ base_name (names_of m) a)
put_text m a false items is = tt
put_text m a true items is = is ∙ text-base m a

pub put_long : (m : MapView) (a : ℕ) (t : Bool) (items : List ℕ) → AreNames m.info.names → t ≡ is_base (names_of m) a → items ≡ text_at m a → OnTrue t (IsNameLong items)
put_long m a false items are base is = tt
put_long m a true items are base is = subst IsNameLong (sym is) (own-long m a (kind_at m a) (base_own m a are ∙ sym base) refl are)

-- ---- where bases are constant

constant-in : (r : RangeType) (len : ℕ) → is_constant (place_in (Some r) len) ≡ is_skip r
constant-in r len = grind arith

pub constant_some : (m : MapView) (a : ℕ) (r : RangeType) → role_at m a ≡ Some r → is_constant (place_of m a) ≡ is_skip r
unfolding place_of
constant_some m a r is = rw is (constant-in r _)

pub constant_none : (m : MapView) (a : ℕ) → role_at m a ≡ None → is_constant (place_of m a) ≡ true
unfolding place_of
constant_none m a is = rw is refl

-- ---- expressions

pub expr_named : (m : MapView) (a : ℕ) (k : NameKind) → kind_at m a ≡ Some k → address_expr (names_of m) a ≡ view.name (text_at m a) k.offset
unfolding address_expr text_at
expr_named m a k is = let b = named m a k is in rw b.is (ap (λ (k : NameKind). view.name b.base.text k.offset) b.kind)

pub expr_number : (m : MapView) (a : ℕ) → kind_at m a ≡ None → address_expr (names_of m) a ≡ view.number a
unfolding address_expr
expr_number m a is = rw (unnamed m a is) refl

zero-by : (m : MapView) (a n : ℕ) (o : Option Base) → constant_offset (option_map (kind_by m a) o) ≡ Some n → expr_from a (constant_base (names_of m) o) ≡ view.name (text_by o) n
zero-by m a n None is = absurd cc
zero-by m a n (Some b) is = grind arith

zero-none : (m : MapView) (a : ℕ) (o : Option Base) → constant_offset (option_map (kind_by m a) o) ≡ None → expr_from a (constant_base (names_of m) o) ≡ view.number a
zero-none m a None is = refl
zero-none m a (Some b) is = grind arith

pub zero_named : (m : MapView) (a n : ℕ) → constant_offset (kind_at m a) ≡ Some n → zero_page_expr (names_of m) a ≡ view.name (text_at m a) n
unfolding zero_page_expr kind_at text_at
zero_named m a n is = zero-by m a n (base_at m a) is

pub zero_number : (m : MapView) (a : ℕ) → constant_offset (kind_at m a) ≡ None → zero_page_expr (names_of m) a ≡ view.number a
unfolding zero_page_expr kind_at
zero_number m a is = zero-none m a (base_at m a) is

-- ---- targets

pub target_named : (m : MapView) (a : ℕ) (k : NameKind) → kind_at m a ≡ Some k → option_map (target_by a) (base_at m a) ≡ Some (record { name = text_at m a; offset = k.offset })
unfolding text_at
target_named m a k is =
    let b = named m a k is in
    rw b.is (ap (λ (k : NameKind). let t : TargetView = record { name = b.base.text; offset = k.offset } in Some t) b.kind)

pub target_none : (m : MapView) (a : ℕ) → kind_at m a ≡ None → option_map (target_by a) (base_at m a) ≡ None
target_none m a is = rw (unnamed m a is) refl
