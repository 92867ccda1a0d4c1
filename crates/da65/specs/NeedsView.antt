-- The names of the files that a run needs, as contracts see them: lists of bytes.
use Rattle.std.specs.Prelude.{ℕ, List, Option}

-- an input name, an output name, and the names of the include files in the order of their groups
pub record NeedsView : Type 0 where
  pub input : Option (List ℕ)
  pub output : Option (List ℕ)
  pub includes : List (List ℕ)
