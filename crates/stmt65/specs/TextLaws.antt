-- What a text means, line by line. Each line stands at the start plus the number of bytes of the lines above it.
-- The text has bytes exactly when no line has a fault, and they are those of its lines in order; else its fault
-- is that of the first line that has one.
use Rattle.std.specs.Prelude.{◌≡◌, ◌↔◌, ℕ, ◌+◌, List, [], ◌∷◌, ◌++◌, length, Option, Some, None, Ok, Err}
use Rattle.std.specs.List.{All, flat_map}
use Rattle.stmt65.specs.Types.{AsmFaultKind, Listing, Repair}
use Rattle.stmt65.specs.SourceLine.{SourceLine}
use Rattle.stmt65.specs.Symbols.{Definition}
use Rattle.stmt65.specs.Layout.{Layout}
use Rattle.stmt65.specs.Coding.{State}
use Rattle.stmt65.specs.Meaning.{initial, after, final, fault_of, bytes_of, meaning_in, meaning_of}

-- a line, and what stands above it
pub record Line : Type 0 where
  pub state : State
  pub says : Option SourceLine

-- lines in order, the first one below the state s
unfoldable pub lines_below : State → List (Option SourceLine) → List Line
lines_below s [] = []
lines_below s (l ∷ ls) = record { state = s; says = l } ∷ lines_below (after s l) ls

-- the lines of a text
abbrev pub lines_of : Layout → ℕ → List (Option SourceLine) → List Line
lines_of layout start ls = lines_below (initial layout start) ls

-- the names that a text defines
abbrev pub names_of : Layout → ℕ → List (Option SourceLine) → List Definition
names_of layout start ls = (final (initial layout start) ls).above

-- `all` are the names of the text
abbrev pub IsFaultless : List Definition → Line → Type 0
IsFaultless all line = fault_of all line.state line.says ≡ None

abbrev pub line_bytes : List Definition → Line → List ℕ
line_bytes all line = bytes_of all line.state line.says

-- A text means these bytes exactly when no line has a fault and they are the bytes of its lines in order.
abbrev pub MeansBytes : Type 0
MeansBytes = (layout : Layout) (start : ℕ) (ls : List (Option SourceLine)) (bytes : List ℕ)
    → (meaning_of layout start ls ≡ Ok bytes)
    ↔ (All (IsFaultless (names_of layout start ls)) (lines_of layout start ls) × (bytes ≡ flat_map (line_bytes (names_of layout start ls)) (lines_of layout start ls)))

-- Line n, counted from 1, has the fault, and no line above it has one.
pub record IsFirstFault (all : List Definition) (lines : List Line) (n : ℕ) (kind : AsmFaultKind) : Type 0 where
  pub above : List Line
  pub line : Line
  pub below : List Line
  pub parts : lines ≡ above ++ line ∷ below
  pub number : n ≡ length above + 1
  pub fault : fault_of all line.state line.says ≡ Some kind
  pub none_above : All (IsFaultless all) above

-- A text has this fault exactly when it is the fault of the first line that has one.
abbrev pub MeansFault : Type 0
MeansFault = (layout : Layout) (start : ℕ) (ls : List (Option SourceLine)) (n : ℕ) (kind : AsmFaultKind)
    → (meaning_of layout start ls ≡ Err (record { line = n; kind = kind })) ↔ IsFirstFault (names_of layout start ls) (lines_of layout start ls) n kind

-- Each line stands at the start plus the number of bytes of the lines above it.
abbrev pub StandsAtItsBytes : Type 0
StandsAtItsBytes = (all : List Definition) (layout : Layout) (start : ℕ) (ls : List (Option SourceLine)) (above below : List Line) (line : Line)
    → lines_of layout start ls ≡ above ++ line ∷ below → line.state.at ≡ start + length (flat_map (line_bytes all) above)

-- What a text means in a listing it means in a repair.
abbrev pub KeepsListings : Type 0
KeepsListings = (layout : Layout) (start : ℕ) (text bytes : List ℕ) → meaning_in Listing layout start text ≡ Ok bytes → meaning_in Repair layout start text ≡ Ok bytes
