-- Without a range SKIP no byte is skipped.
use Rattle.std.proofs.Common.{◌≡◌, ℕ, Bool, true, false, List, ◌∷◌, length, refl, []}
use Rattle.std.specs.Prelude.{if◌then◌else◌}
use Rattle.std.specs.List.{list_any}
use Rattle.std.proofs.lemmas.Bool.{or_parts}
use Rattle.std.proofs.lemmas.List.Folds.{list_any_none}
use Rattle.info65.specs.Words.{has_address}
use Rattle.da65.specs.Words.{RangeSpec, is_skip_range, skips}
use Rattle.map65.specs.Words.{MapView, addresses, is_skip, role_in, role_of}

pub skip-in : (ranges : List RangeSpec) (a : ℕ) → list_any is_skip_range ranges ≡ false → is_skip (role_in ranges a) ≡ false
unfolding role_in
skip-in [] a none = refl
skip-in (r ∷ rs) a none =
    let both = or_parts (is_skip_range r) (list_any is_skip_range rs) none in
    go (has_address r a) both.0 (skip-in rs a both.1)
  where
    go : (t : Bool) → is_skip r.role ≡ false → is_skip (role_in rs a) ≡ false → is_skip (if t then r.role else role_in rs a) ≡ false
    go true here past = here
    go false here past = past

pub no_skips : (m : MapView) → list_any is_skip_range m.info.ranges ≡ false → skips m ≡ false
unfolding skips
no_skips m none = list_any_none (λ a. is_skip (role_of m.info a)) (addresses (length m.image.bytes) m.image.start) (λ k d low. skip-in m.info.ranges _ none)
