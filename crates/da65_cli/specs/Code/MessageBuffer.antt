-- What messages that wait are seen as.
use Rattle.std.specs.Prelude.{ℕ, List}

-- their bytes, in the order in which they came, and how many writes failed
pub record MessageBufferView : Type 0 where
  pub bytes : List ℕ
  pub faults : ℕ
