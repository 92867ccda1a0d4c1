-- Cells, address by address.
use Rattle.std.proofs.Common.{◌≡◌, ◌≢◌, ◌∙◌, ℕ, ◌/◌, ◌%◌, ◌<◌, Bool, true, false, List, Option, Some, None, length, get_or, set, refl, ap, arith}
use Rattle.std.proofs.lemmas.Bool.{eq-eqb, ne_eqb}
use Rattle.std.proofs.lemmas.List.{get_or-set_other, get_or-set_same}
use Rattle.map65.specs.Words.{AreNamed, Code, RangeType, bit, cell_of, code_of, coded, has_border, is_named, is_wide_cell, is_wide_role, len_in_cell, role_in_cell, with_border, with_len, with_name}

-- ---- one cell

pub code-small : (r : Option RangeType) → code_of r < 16
unfolding code_of
code-small None = omega arith
code-small (Some Code) = omega arith
code-small (Some _) = omega arith

pub coded-code : (r : Option RangeType) → coded (code_of r) ≡ r
unfolding code_of coded
coded-code None = refl
coded-code (Some Code) = refl
coded-code (Some _) = refl

-- what the lower seven bits say
pub cell-role : (c : ℕ) (r : Option RangeType) (n : ℕ) → n < 8 → c % 128 ≡ cell_of r n → role_in_cell c ≡ r
unfolding role_in_cell cell_of
cell-role c r n small is =
    let code : c % 16 ≡ code_of r = omega (arith, is, code-small r) in
    ap coded code ∙ coded-code r

pub cell-len : (c : ℕ) (r : Option RangeType) (n : ℕ) → n < 8 → c % 128 ≡ cell_of r n → len_in_cell c ≡ n
unfolding len_in_cell cell_of
cell-len c r n small is = omega (arith, is, code-small r)

pub cell-small : (r : Option RangeType) (n : ℕ) → n < 8 → cell_of r n < 128
unfolding cell_of
cell-small r n small = omega (arith, code-small r)

pub cell-wide : (c : ℕ) (r : Option RangeType) (n : ℕ) → n < 8 → c % 128 ≡ cell_of r n → is_wide_cell c ≡ is_wide_role r
cell-wide c r n small is = ap is_wide_role (cell-role c r n small is)

-- ---- a length, and bits, that are added to a cell

pub with_len-lay : (c : ℕ) (r : Option RangeType) (n : ℕ) → n < 8 → c % 128 ≡ cell_of r 0 → with_len c n % 128 ≡ cell_of r n
unfolding with_len cell_of
with_len-lay c r n small is = omega (arith, is, code-small r)

pub with_len-rest : (c : ℕ) (r : Option RangeType) (n : ℕ) → n < 8 → c % 128 ≡ cell_of r 0 → with_len c n / 128 ≡ c / 128
unfolding with_len cell_of
with_len-rest c r n small is = omega (arith, is, code-small r)

is_named-is : (c : ℕ) (b : Bool) → c / 128 % 2 ≡ bit b → is_named c ≡ b
unfolding is_named
is_named-is c true is = eq-eqb (c / 128 % 2) 1 (omega (arith, is))
is_named-is c false is = ne_eqb (c / 128 % 2) 1 (omega (arith, is))

pub with_name-lay : (c : ℕ) → with_name c % 128 ≡ c % 128
unfolding with_name
with_name-lay c = omega arith

pub with_name-bit : (c : ℕ) → with_name c / 128 % 2 ≡ 1
unfolding with_name
with_name-bit c = omega arith

pub with_name-border : (c : ℕ) → with_name c / 256 ≡ c / 256
unfolding with_name
with_name-border c = omega arith

pub with_name_again : (c : ℕ) → with_name (with_name c) ≡ with_name c
unfolding with_name
with_name_again c = omega arith

pub has_border-is : (c : ℕ) (b : Bool) → c / 256 ≡ bit b → has_border c ≡ b
unfolding has_border
has_border-is c true is = eq-eqb (c / 256 % 2) 1 (omega (arith, is))
has_border-is c false is = ne_eqb (c / 256 % 2) 1 (omega (arith, is))

pub with_border_again : (c : ℕ) → with_border (with_border c) ≡ with_border c
unfolding with_border
with_border_again c = omega arith

-- ---- all cells

pub named_test : (p : ℕ → Bool) (cells : List ℕ) (a : ℕ) → AreNamed p cells → a < 65536 → is_named (get_or cells a 0) ≡ p a
named_test p cells a named room = is_named-is (get_or cells a 0) (p a) (named.each a room)

pub named-as : (p q : ℕ → Bool) (cells : List ℕ) → ((a : ℕ) → a < 65536 → p a ≡ q a) → AreNamed p cells → AreNamed q cells
named-as p q cells same named = record { each = λ a room. named.each a room ∙ ap bit (same a room) }

-- what holds of each cell after one was set: it holds of that one, and of the others as they were
pub set-cell : (P : ℕ → ℕ → Type 0) (cells : List ℕ) (n c : ℕ) → n < length cells → P n c → ((a : ℕ) → a < 65536 → a ≢ n → P a (get_or cells a 0)) → (a : ℕ) → a < 65536 → P a (get_or (set cells n c) a 0)
set-cell P cells n c room here others a below = grind (arith, get_or-set_same, get_or-set_other)
