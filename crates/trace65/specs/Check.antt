-- What an information says beside another one: all of that, and what is found.
use Rattle.std.specs.Prelude.{◌≡◌, ◌++◌, ◌∷◌, ℕ, List, [], Err}
use Rattle.files65.specs.declared.failure.Failure.{Failure}
use Rattle.files65.specs.declared.failure.Failure.TheVariants.{Own}
use Rattle.info65.specs.Words.{InfoView, NameView, OptionsView, default_label, information}
use Rattle.info65.specs.declared.information.range.RangeSpec.{RangeSpec}
use Rattle.trace65.specs.declared.failure.Refused.{Refused}
use Rattle.trace65.specs.declared.failure.Refused.TheVariants.{Text}

-- The names of the first list and the default names of these addresses are the third list: each once, in their order.
pub data AreMerged : List NameView → List ℕ → List NameView → Type 0 where
  none : AreMerged [] [] []
  given : (n : NameView) (names : List NameView) (labels : List ℕ) (all : List NameView)
      → AreMerged names labels all → AreMerged (n ∷ names) labels (n ∷ all)
  label : (a : ℕ) (names : List NameView) (labels : List ℕ) (all : List NameView)
      → AreMerged names labels all → AreMerged names (a ∷ labels) (default_label a ∷ all)

-- The new information says what the base says, these ranges after those of the base,
-- and default names for these addresses.
pub record Says (base : InfoView) (found : List RangeSpec) (labels : List ℕ) (new : InfoView) : Type 0 where
  pub settings : new.settings ≡ base.settings
  pub ranges : new.ranges ≡ base.ranges ++ found
  pub segments : new.segments ≡ base.segments
  pub names : AreMerged base.names labels new.names
  pub includes : new.includes ≡ base.includes

-- a failure that names a fault of the text is the first one
abbrev pub Explains : OptionsView → List ℕ → Failure Refused → Type 0
Explains o text (Own (Text e)) = information o text ≡ Err e
Explains o text _ = Unit {0}
