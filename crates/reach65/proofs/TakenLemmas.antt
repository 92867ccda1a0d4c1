-- Marks of taken addresses, one instruction or range after the other.
use Rattle.std.proofs.Common.{◌≡◌, ◌+◌, ◌≤◌, ◌<◌, ◌&&◌, ◌||◌, nat_le, nat_lt, ℕ, Bool, false, List, length, get_or, take, arith, refl}
use Rattle.std.proofs.lemmas.Bool.Decides.{nat_tests}
use Rattle.std.specs.List.{list_any}
use Rattle.std.proofs.lemmas.List.Folds.{list_any-append, list_any_more}
use Rattle.info65.specs.Words.{has_address}
use Rattle.map65.specs.Words.{MapView, addresses, is_between}
use Rattle.map65.proofs.Public.{addresses_more}
use Rattle.reach65.specs.Words.{RangeSpec, is_code, is_code_of}

-- a span is what lies from its first address to before its last one
pub in_span : (from to a : ℕ) → to ≤ 65536 → is_between from to a ≡ (nat_le from a && nat_lt a to)
in_span from to a low = grind (arith, nat_tests)

-- so it is for the addresses of a range
pub in_range : (r : RangeSpec) (a : ℕ) → r.last < 65536 → is_between r.first (r.last + 1) a ≡ has_address r a
in_range r a low = grind (arith, nat_tests)

-- the instruction of one of the first k addresses has the address, and is reached
pub code_in : MapView → (ℕ → Bool) → ℕ → ℕ → Bool
code_in m reached k a = list_any (λ b. is_code_of m reached b a) (addresses k m.image.start)

pub code_in_none : (m : MapView) (reached : ℕ → Bool) (a : ℕ) → code_in m reached 0 a ≡ false
unfolding code_in addresses
code_in_none m reached a = refl

pub code_in_more : (m : MapView) (reached : ℕ → Bool) (k at a : ℕ) → at ≡ m.image.start + k → code_in m reached (k + 1) a ≡ (code_in m reached k a || is_code_of m reached at a)
unfolding code_in
code_in_more m reached k at a is = grind (arith, addresses_more, list_any-append)

pub code_in_all : (m : MapView) (reached : ℕ → Bool) (k a : ℕ) → k ≡ length m.image.bytes → code_in m reached k a ≡ is_code m reached a
unfolding code_in is_code
code_in_all m reached k a is = rw is refl

-- one range more
pub any_range : {X : Type 0} (p : X → Bool) (xs : List X) (i : ℕ) (d : X) (first old new : Bool) → i < length xs → old ≡ (first || list_any p (take i xs))
    → new ≡ (old || p (get_or xs i d)) → new ≡ (first || list_any p (take (i + 1) xs))
any_range p xs i d first old new room before is = rw (list_any_more p xs i d room) (grind arith)
