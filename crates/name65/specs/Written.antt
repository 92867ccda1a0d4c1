-- What is appended to a text while it is written, and how its lines are read once more.
use Rattle.std.specs.Prelude.{◌≡◌, ◌++◌, ℕ, ◌+◌, ◌<◌, true, List, Some, length}
use Rattle.stmt65.specs.Words.{PlaceAssignment, held, part_of, parts}
use Rattle.stmt65.specs.declared.language.Language.{Language}
use Rattle.name65.specs.Changes.{LineBecomes, moves, says}
use Rattle.name65.specs.Compared.{GoesOn, Renamed, Scope, cursor_of, names_one}
use Rattle.name65.specs.Marks.{names_seen}
use Rattle.name65.specs.declared.compared.Compared.{Compared}
use Rattle.name65.specs.declared.compared.Piece.{Piece}
use Rattle.name65.specs.declared.constants.Fate.{Fate}
use Rattle.name65.specs.declared.constants.Fate.TheVariants.{Kept, LeftOut, Moved}
use Rattle.name65.specs.declared.plan.NewText.{NewText}
use Rattle.name65.specs.declared.plan.PlacedLine.{PlacedLine}
use Rattle.name65.specs.declared.plan.Plan.{Plan}

-- what decides how lines change, by a plan
abbrev pub scope_seen : Plan → Scope
scope_seen p = record { language = p.language; named = names_seen p.named.now; used = p.used; last = p.last }

-- a line was appended as it becomes, and what moves behind the last line
pub record AppendsLine (placed : PlacedLine) (old new : NewText) : Type 0 where
  pub text : List ℕ
  pub moved : List ℕ
  pub becomes : LineBecomes (scope_seen placed.plan.now) placed.at placed.end placed.line.now text moved
  pub whole : new.lines.items ≡ old.lines.items ++ text
  pub tail_is : new.tail.items ≡ old.tail.items ++ moved

-- a line may stand in the place of one that gives bytes
pub record IsRenamedLine (placed : PlacedLine) (new : List ℕ) : Type 0 where
  pub named : names_one (names_seen placed.plan.now.named.now) placed.at placed.end ≡ true
  pub renamed : Renamed (scope_seen placed.plan.now) (cursor_of (parts placed.plan.now.language placed.line.now) placed.at placed.end) placed.line.now new

-- what becomes of the constant line of a name with a value may become of it
abbrev pub IsFate : Scope → ℕ → Fate → Type 0
IsFate scope value Kept = Unit {0}
IsFate scope value LeftOut = scope.used ≡ true
IsFate scope value (Moved distance) = (moves scope value ≡ true) × (value ≡ scope.last + distance)

-- a line defines a name by its distance from the last line, and so with a value
pub record IsPlaced (scope : Scope) (line name : List ℕ) (value : ℕ) : Type 0 where
  pub distance : ℕ
  pub reads : says scope line ≡ Some (PlaceAssignment name distance)
  pub value_is : value ≡ scope.last + held distance

-- ---- two lines beside each other

-- the piece is the next part of the line
pub record IsPiece (language : Language) (line : List ℕ) (p : Piece) : Type 0 where
  pub whole : line ≡ p.blanks.now ++ (p.text.now ++ p.rest.now)
  pub goes_on : GoesOn language (part_of p.part) p.blanks.now p.text.now p.rest.now

abbrev pub IsRenamed : Scope → Compared → Type 0
IsRenamed scope c = Renamed scope c.cursor c.old.now c.new.now

-- how much is left of both: the parts of the first, and the bytes of the second
abbrev pub left_of : Language → Compared → ℕ
left_of language c = length (parts language c.old.now) + length c.new.now

-- if the second differ only where groups name bytes, so do the first, of which more is left
pub record LeadsTo (scope : Scope) (first second : Compared) : Type 0 where
  pub leads : IsRenamed scope second → IsRenamed scope first
  pub fewer : left_of scope.language second < left_of scope.language first
