-- A line as fields at their columns.
--
-- A line shorter than the column less 1 is filled with blanks up to there; to any other line that is not empty one
-- blank is added, so one blank follows a name that is too long for its column.
use Rattle.std.specs.Prelude.{if◌then◌else◌, ◌++◌, ◌-◌, ◌==◌, ◌∷◌, List, [], length, nat_lt, replicate, ℕ}
use Rattle.stmt65.specs.Types.{Columns}
use Rattle.stmt65.specs.Levels.{fields_after}
use Rattle.stmt65.specs.Statements.{Field, label_fields, fields_of}
use Rattle.stmt65.specs.Views.{StatementView, RemarksView}

-- A line that is ready for a field at this column: a shorter line is filled with blanks; to any other
-- that is not empty one blank is added.
unfoldable pub filled : List ℕ → ℕ → List ℕ
filled line column = if nat_lt (length line) (column - 1) then line ++ replicate (column - 1 - length line) 32
    else (if length line == 0 then [] else line ++ 32 ∷ [])

-- the line with further fields
abbrev pub with_fields : List ℕ → List Field → List ℕ
with_fields line [] = line
with_fields line (field ∷ fields) = with_fields (filled line field.0 ++ field.1) fields

-- The label and the statement.
abbrev pub plain_line : Columns → StatementView → RemarksView → List ℕ
plain_line c s r = with_fields (with_fields [] (label_fields r.label)) (fields_of c r.hexoffs s)

-- The line of a statement, without its line feed: the label, the statement, and what stands after it.
unfoldable pub line_of : Columns → StatementView → RemarksView → List ℕ
line_of c s r = with_fields (plain_line c s r) (fields_after c s r)
