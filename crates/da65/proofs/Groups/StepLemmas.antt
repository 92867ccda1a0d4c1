-- Items that go on, addresses, and places of groups, one after the other.
use Rattle.std.proofs.Common.{◌≡◌, ◌∙◌, ℕ, suc, ◌+◌, ◌-◌, ◌<◌, ◌≤◌, true, ◌∷◌, refl, ap, sym, arith, []}
use Rattle.map65.specs.Words.{MapView, addresses, item_len}
use Rattle.da65.specs.Words.{goes_on, group_len, limit_at, more_at}
use Rattle.da65.proofs.Groups.GroupLemmas.{more-true}

-- ---- the items that go on

-- one more item goes on
pub more-step : (m : MapView) (n a len : ℕ) → 0 < n → goes_on m a ≡ true → len ≡ item_len m a → more_at m n a ≡ len + more_at m (n - 1) (a + len)
more-step m n a len some is same =
    let count : n ≡ suc (n - 1) = omega (arith, some) in
    ap (λ (n : ℕ). more_at m n a) count ∙ more-true m (n - 1) a is ∙ ap (λ (len : ℕ). len + more_at m (n - 1) (a + len)) (sym same)

-- a line that takes one item has no more
pub group_one : (m : MapView) (a : ℕ) → limit_at m a ≡ 1 → group_len m a ≡ item_len m a
unfolding group_len more_at
group_one m a one = grind arith

-- ---- addresses, one after the other

pub addresses-here : (end a : ℕ) → a < end → addresses (end - a) a ≡ a ∷ addresses (end - (a + 1)) (a + 1)
unfolding addresses
addresses-here end a low = let more : end - a ≡ suc (end - (a + 1)) = omega (arith, low) in rw more refl

pub addresses-end : (end a : ℕ) → end ≤ a → addresses (end - a) a ≡ []
unfolding addresses
addresses-end end a high = let none : end - a ≡ 0 = omega (arith, high) in rw none refl
