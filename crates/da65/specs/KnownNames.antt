-- What the text above a line defines of a listing's names.
use Rattle.std.specs.Prelude.{◌≡◌, ℕ, Bool, true, List, [], ◌∷◌, if◌then◌else◌}
use Rattle.std.specs.List.{filter}
use Rattle.std.specs.Str.{bytes_eq}
use Rattle.stmt65.specs.Words.{Definition}
use Rattle.da65.specs.BaseNames.{AddressNames, base_name, is_base}

-- the definitions of a name, among others
abbrev pub definitions_of : List ℕ → List Definition → List Definition
definitions_of name ds = filter (λ d. bytes_eq d.name name) ds

-- how a base is defined: with its address for a value
abbrev pub definition_of : AddressNames → ℕ → Definition
definition_of m b = record { name = base_name m b; value = b; constant = m.has_constant b }

-- Each base that passes the test is defined exactly once, with its address for a value, and no other base is defined.
pub record Knows (m : AddressNames) (p : ℕ → Bool) (ds : List Definition) : Type 0 where
  pub found : (v : ℕ) → is_base m v ≡ true → definitions_of (base_name m v) ds ≡ (if p v then definition_of m v ∷ [] else [])

-- each base is defined
abbrev pub KnowsAll : AddressNames → List Definition → Type 0
KnowsAll m ds = Knows m (λ v. true) ds

-- each base with a constant line is defined, and perhaps others
pub record KnowsConstants (m : AddressNames) (p : ℕ → Bool) (ds : List Definition) : Type 0 where
  pub knows : Knows m p ds
  pub constants : (v : ℕ) → m.has_constant v ≡ true → p v ≡ true
