-- The items within a group.
use Rattle.std.proofs.Common.{◌≡◌, ◌∙◌, ℕ, zero, suc, ◌+◌, ◌-◌, ◌<◌, ◌≤◌, Bool, true, false, length, refl, sym, ap, subst, arith, ⊎_elim}
use Rattle.std.proofs.lemmas.Bool.{cases_eq, cases_lt}
use Rattle.da65.specs.Words.{IsGroupPlace, goes_on, group_len, limit_at, more_at}
use Rattle.map65.specs.Words.{AreOnePiece, MapView, is_joined, is_skip, item_len, role_of, size_at}
use Rattle.map65.proofs.Public.{begun as item-begun, item-len-at, size-one-piece, size-positive}
use Rattle.da65.proofs.Groups.GroupLemmas.{item-goes-on, more-false, more-none, more-true}

-- ---- a group lies in one piece

more-piece : (m : MapView) (n b a : ℕ) → 1 ≤ a → AreOnePiece m b (a - 1) → AreOnePiece m b (a + more_at m n a - 1)
more-piece m zero b a some piece = let place : a + more_at m 0 a - 1 ≡ a - 1 = omega (arith, more-none m a) in subst (AreOnePiece m b) (sym place) piece
more-piece m (suc n) b a some piece = go (goes_on m a) refl (more-piece m n b)
  where
    item-piece : goes_on m a ≡ true → AreOnePiece m b (a + item_len m a - 1)
    item-piece is x low high =
        let item = item-goes-on m a is in
        let begun = item-begun m a item.some in
        ⊎_elim
        (λ before. piece x low (omega (arith, before)))
        (λ past. ⊎_elim
        (λ same. ap (is_joined m) same ∙ item.joined)
        (λ other. size-one-piece m a x (omega (arith, past, other)) (omega (arith, high, begun.len)))
        (cases_eq x a))
        (cases_lt x a)

    go : (t : Bool) → goes_on m a ≡ t → ((a : ℕ) → 1 ≤ a → AreOnePiece m b (a - 1) → AreOnePiece m b (a + more_at m n a - 1)) → AreOnePiece m b (a + more_at m (suc n) a - 1)
    go false is past = let place : a + more_at m (suc n) a - 1 ≡ a - 1 = omega (arith, more-false m n a is) in subst (AreOnePiece m b) (sym place) piece
    go true is past =
        let place : a + more_at m (suc n) a - 1 ≡ a + item_len m a + more_at m n (a + item_len m a) - 1 = omega (arith, more-true m n a is) in
        subst (AreOnePiece m b) (sym place) (past (a + item_len m a) (omega (arith, some)) (item-piece is))

pub group-piece : (m : MapView) (k : ℕ) → IsGroupPlace m k → k < length m.image.bytes → is_skip (role_of m.info (m.image.start + k)) ≡ false
    → AreOnePiece m (m.image.start + k) (m.image.start + k + group_len m (m.image.start + k) - 1)
unfolding group_len
group-piece m k here low shown =
    let a : ℕ = m.image.start + k in
    let begun : item_len m a ≡ size_at m a = item-len-at m k low shown here.item in
    let first : AreOnePiece m a (a + item_len m a - 1) = λ x before past. size-one-piece m a x before (omega (arith, past, begun)) in
    let all = more-piece m (limit_at m a - 1) a (a + item_len m a) (omega (arith, begun, size-positive m a)) first in
    λ x before past. all x before (omega (arith, past))
