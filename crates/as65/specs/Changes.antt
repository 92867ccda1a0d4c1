-- What differs between an image and a listing in which labels have left the address in their name.
use Rattle.std.specs.Prelude.{◌≡◌, ℕ, List, [], ◌++◌, flat_map}
use Rattle.as65.specs.Compared.{Compared}
use Rattle.as65.specs.Differences.{AreDifferences}
use Rattle.as65.specs.Moves.{move_line}
use Rattle.as65.specs.Types.{Label}

-- First a line for each of the labels at which the distance from the address in the name changes. If there is none, the
-- rest are the differences, byte by byte.
pub record IsDifferences (moves : List Label) (c : Compared) (text : List ℕ) : Type 0 where
  pub rest : List ℕ
  pub lines : text ≡ flat_map move_line moves ++ rest
  pub unmoved : moves ≡ [] → AreDifferences c rest
