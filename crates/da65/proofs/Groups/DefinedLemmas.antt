-- Which addresses of a group are defined by name.
use Rattle.std.proofs.Common.{◌≡◌, ℕ, ◌-◌, true, Some, arith}
use Rattle.std.proofs.lemmas.Bool.{eqb-true}
use Rattle.da65.specs.Words.{is_defined}
use Rattle.map65.specs.Words.{Base, MapView, base_at}

-- what defines the address by name
pub record Defined (m : MapView) (a : ℕ) : Type 0 where
  pub base : Base
  pub is : base_at m a ≡ Some base
  pub own : base.address ≡ a

pub defined-base : (m : MapView) (a : ℕ) → is_defined m a ≡ true → Defined m a
defined-base m a h = grind (arith, eqb-true)
