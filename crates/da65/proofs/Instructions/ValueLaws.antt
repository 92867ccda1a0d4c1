-- Expressions: their values, and their sizes.
use Rattle.std.proofs.Common.{◌≡◌, ℕ, Bool, true, false, cond, eqb, ◌+◌, ◌-◌, ◌<◌, ◌≤◌, List, Option, Some, None, refl, arith, ◌∷◌, []}
use Rattle.std.specs.Prelude.{nat_lt, IfSome}
use Rattle.std.proofs.Math.Bool.{and-false}
use Rattle.std.proofs.lemmas.Bool.{ne_eqb}
use Rattle.stmt65.specs.Words.{Definition, NameValue, NumberValue, Value, find_name, has_zero_page_size, is_known, source_value, value_in}
use Rattle.da65.specs.Words.{AreSound, ExpressionsHaveTheirValues, IsBaseOf, Knows, KnowsAll, KnowsConstants, AddressNames, Zero, address_expr, constant_base, definition_of, expr_from, zero_page_expr}
use Rattle.stmt65.specs.declared.source_line.Minus.TheVariants.{One}
use Rattle.map65.specs.Words.{Base, ImageView}
use Rattle.da65.proofs.Blocks.Knowledge.{first_of, knows_found}

-- ---- bases

-- the definition of an address's base, if that passes the test
base-found : (m : AddressNames) (p : ℕ → Bool) (ds : List Definition) (a : ℕ) (b : Base) (t : Bool) → Knows m p ds → IsBaseOf m a b → p b.address ≡ t → find_name b.text ds ≡ first_of (cond t (definition_of m b.address ∷ []) [])
base-found m p ds a b t k is e = grind (arith, knows_found)

-- ---- values

-- its names are known, and this is its value
pub record IsWorth (all : List Definition) (v : Value) (n : ℕ) : Type 0 where
  pub known : is_known all v ≡ true
  pub value : value_in all v ≡ Some n

pub number_worth : (all : List Definition) (n : ℕ) → IsWorth all (NumberValue n) n
unfolding is_known value_in
number_worth all n = record { known = refl; value = refl }

pub name_worth : (m : AddressNames) (all : List Definition) (a : ℕ) (b : Base) → KnowsAll m all → IsBaseOf m a b → IsWorth all (NameValue b.text (a - b.address) Zero) a
unfolding is_known value_in
name_worth m all a b k is =
    let low : b.address ≤ a = is.before in
    let same : b.address + (a - b.address) ≡ a = omega arith in
    let found = base-found m (λ v. true) all a b true k is refl in
    record { known = rw found refl; value = rw (found, same) refl }

-- the address before
pub before_worth : (m : AddressNames) (all : List Definition) (a : ℕ) (b : Base) → KnowsAll m all → IsBaseOf m a b → 0 < a → IsWorth all (NameValue b.text (a - b.address) One) (a - 1)
unfolding is_known value_in
before_worth m all a b k is some =
    let low : b.address ≤ a = is.before in
    let same : b.address + (a - b.address) ≡ a = omega arith in
    let not-none : eqb a 0 ≡ false = ne_eqb a 0 (λ e. absurd (omega (arith, e, some))) in
    let found = base-found m (λ v. true) all a b true k is refl in
    record { known = rw found refl; value = rw (found, same, not-none) refl }

-- ---- expressions

from_worth : (m : AddressNames) (all : List Definition) (a : ℕ) (o : Option Base) → KnowsAll m all → IfSome o (λ b. IsBaseOf m a b) → IsWorth all (source_value (expr_from a o)) a
from_worth m all a None k is = number_worth all a
from_worth m all a (Some b) k is = name_worth m all a b k is

-- the base of an address's name is one
pub is-base : (image : ImageView) (m : AddressNames) (a : ℕ) → AreSound image m → (o : Option Base) → m.base_at a ≡ o → IfSome o (λ b. IsBaseOf m a b)
is-base image m a names None e = tt
is-base image m a names (Some b) e = names.bases a b e

-- a base with a constant line
pub record IsConstantOf (m : AddressNames) (a : ℕ) (b : Base) : Type 0 where
  pub is : IsBaseOf m a b
  pub constant : m.has_constant b.address ≡ true

pub is-constant : (image : ImageView) (m : AddressNames) (a : ℕ) → AreSound image m → (o : Option Base) → m.base_at a ≡ o → IfSome (constant_base m o) (λ b. IsConstantOf m a b)
is-constant image m a names None e = tt
is-constant image m a names (Some b) e = grind arith

forget : (m : AddressNames) (a : ℕ) (o : Option Base) → IfSome o (λ b. IsConstantOf m a b) → IfSome o (λ b. IsBaseOf m a b)
forget m a None h = tt
forget m a (Some b) h = h.is

pub address_worth : (image : ImageView) (m : AddressNames) (all : List Definition) (a : ℕ) → AreSound image m → KnowsAll m all → IsWorth all (source_value (address_expr m a)) a
unfolding address_expr
address_worth image m all a names k = from_worth m all a (m.base_at a) k (is-base image m a names (m.base_at a) refl)

pub zero_page_worth : (image : ImageView) (m : AddressNames) (all : List Definition) (a : ℕ) → AreSound image m → KnowsAll m all → IsWorth all (source_value (zero_page_expr m a)) a
unfolding zero_page_expr
zero_page_worth image m all a names k = from_worth m all a (constant_base m (m.base_at a)) k (forget m a _ (is-constant image m a names (m.base_at a) refl))

pub expressions_have_their_values : ExpressionsHaveTheirValues
expressions_have_their_values image m all names k = record {
  address = λ a. (address_worth image m all a names k).value;
  zero_page = λ a. (zero_page_worth image m all a names k).value;
  return = λ a b some e. (before_worth m all a b k (names.bases a b e) some).value;
}

-- ---- sizes, by the lines above

-- an address from $100 on has absolute size, by any name
large_from : (m : AddressNames) (p : ℕ → Bool) (above : List Definition) (a : ℕ) (o : Option Base) → Knows m p above → nat_lt a 256 ≡ false → IfSome o (λ b. IsBaseOf m a b)
    → has_zero_page_size above (source_value (expr_from a o)) ≡ false
unfolding has_zero_page_size value_in
large_from m p above a None k large is = large
large_from m p above a (Some b) k large is = go (p b.address) refl
  where
    low : b.address ≤ a
    low = is.before

    same : b.address + (a - b.address) ≡ a
    same = omega (arith, low)

    go : (t : Bool) → p b.address ≡ t → has_zero_page_size above (NameValue b.text (a - b.address) Zero) ≡ false
    go true e = rw (base-found m p above a b true k is e, same, large) (and-false (m.has_constant b.address))
    go false e = rw (base-found m p above a b false k is e) refl

pub address_large : (image : ImageView) (m : AddressNames) (p : ℕ → Bool) (above : List Definition) (a : ℕ) → AreSound image m → Knows m p above → nat_lt a 256 ≡ false → has_zero_page_size above (source_value (address_expr m a)) ≡ false
unfolding address_expr
address_large image m p above a names k large = large_from m p above a (m.base_at a) k large (is-base image m a names (m.base_at a) refl)

-- an operand in the zero page has that size, by the name of a constant too
small_from : (m : AddressNames) (p : ℕ → Bool) (above : List Definition) (a : ℕ) (o : Option Base) → KnowsConstants m p above → nat_lt a 256 ≡ true → IfSome o (λ b. IsConstantOf m a b)
    → has_zero_page_size above (source_value (expr_from a o)) ≡ true
unfolding has_zero_page_size value_in
small_from m p above a None k small is = small
small_from m p above a (Some b) k small is =
    let low : b.address ≤ a = is.is.before in
    let same : b.address + (a - b.address) ≡ a = omega arith in
    rw (base-found m p above a b true k.knows is.is (k.constants b.address is.constant), is.constant, same, small) refl

pub zero_page_small : (image : ImageView) (m : AddressNames) (p : ℕ → Bool) (above : List Definition) (a : ℕ) → AreSound image m → KnowsConstants m p above → nat_lt a 256 ≡ true → has_zero_page_size above (source_value (zero_page_expr m a)) ≡ true
unfolding zero_page_expr
zero_page_small image m p above a names k small = small_from m p above a (constant_base m (m.base_at a)) k small (is-constant image m a names (m.base_at a) refl)
