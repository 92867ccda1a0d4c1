-- What contracts see of a block.
use Rattle.std.specs.Prelude.{ℕ, List}

-- the bytes that wait, and for how many more there is room
pub record BlockView : Type 0 where
  pub bytes : List ℕ
  pub room : ℕ
