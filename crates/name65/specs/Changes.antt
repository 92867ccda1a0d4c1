-- How the lines of a listing change.
use Rattle.std.specs.Prelude.{◌≡◌, ◌++◌, ℕ, ◌+◌, Bool, true, List, [], ◌∷◌, ◌&&◌, nat_le, Option, Some}
use Rattle.stmt65.specs.Words.{Assignment, PlaceAssignment, SourceLine, held, parts, reading_of}
use Rattle.name65.specs.Compared.{Renamed, Scope, cursor_of, names_one, value_cursor}

-- what a line says
abbrev pub says : Scope → List ℕ → Option SourceLine
says scope line = reading_of scope.language (parts scope.language line)

-- a constant after the last line that a group names moves
abbrev pub moves : Scope → ℕ → Bool
moves scope n = scope.named n && nat_le scope.last n

-- A line that gives the bytes from `at` to before `end`; what stands in its place; and what stands after the last line
-- for it. Each line may stay. One that gives a byte that a group names may differ as `Renamed` says. A constant line
-- may be left out with `--used`, or move after the last line, where it defines the same name with the same value.
pub data LineBecomes (scope : Scope) (at end : ℕ) : List ℕ → List ℕ → List ℕ → Type 0 where
  stays : {line : List ℕ} → LineBecomes scope at end line (line ++ 10 ∷ []) []
  renamed : {line new : List ℕ} → names_one scope.named at end ≡ true → Renamed scope (cursor_of (parts scope.language line) at end) line new → LineBecomes scope at end line (new ++ 10 ∷ []) []
  left_out : {line : List ℕ} (name : List ℕ) (n : ℕ) → says scope line ≡ Some (Assignment name n) → scope.used ≡ true → LineBecomes scope at end line [] []
  moved : {line new : List ℕ} (name : List ℕ) (n distance : ℕ) → says scope line ≡ Some (Assignment name n) → moves scope (held n) ≡ true
      → Renamed scope (value_cursor (held n)) line new → says scope new ≡ Some (PlaceAssignment name distance) → held n ≡ scope.last + held distance
      → LineBecomes scope at end line [] (new ++ 10 ∷ [])

-- lines, by the address after each; what stands in their places; and what stands after the last
pub data LinesBecome (scope : Scope) : ℕ → List (List ℕ) → List ℕ → List ℕ → List ℕ → Type 0 where
  no_line : {at : ℕ} {ends : List ℕ} → LinesBecome scope at [] ends [] []
  next_line : {at end : ℕ} {line text tail texts tails : List ℕ} {lines : List (List ℕ)} {ends : List ℕ} → LineBecomes scope at end line text tail
      → LinesBecome scope end lines ends texts tails → LinesBecome scope at (line ∷ lines) (end ∷ ends) (text ++ texts) (tail ++ tails)
