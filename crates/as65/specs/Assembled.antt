-- A listing that assembles.
use Rattle.std.specs.Prelude.{ℕ, List, Result}
use Rattle.stmt65.specs.Words.{source_addresses, source_meaning}
use Rattle.as65.specs.Moves.{labels_of, moves_in, places_of}
use Rattle.as65.specs.Types.{AsmFault, Label, Source}

-- a text, what it means, the address after each of its lines, the labels `LXXXX` at which the distance from the address
-- in the name changes, the same with names inside instructions, and its bytes
pub record AssembledView : Type 0 where
  pub text : List ℕ
  pub means : Result (List ℕ) AsmFault
  pub ends : List ℕ
  pub moves : List Label
  pub misplaced : List Label
  pub bytes : List ℕ

-- a source and these bytes
abbrev pub seen : {L : Type 0} → Source L → List ℕ → AssembledView
seen s bytes = record {
  text = s.text.now;
  means = source_meaning s;
  ends = source_addresses s;
  moves = moves_in (labels_of s);
  misplaced = moves_in (places_of s);
  bytes = bytes;
}
