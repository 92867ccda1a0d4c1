-- What the reading of a line is to what is written.
--
-- A line of a listing is read as a thing if and only if it is a spacing of a spelling of that thing, and
-- it is a spelling of one thing at most.
use Rattle.std.specs.Prelude.{◌↔◌, ◌≡◌, List, Some, ℕ}
use Rattle.stmt65.specs.Types.{Listing}
use Rattle.stmt65.specs.SourceLine.{SourceLine}
use Rattle.stmt65.specs.Parts.{Part}
use Rattle.stmt65.specs.Lexing.{parts}
use Rattle.stmt65.specs.Spacing.{IsSpacing}
use Rattle.stmt65.specs.Reading.{reading_of}
use Rattle.stmt65.specs.Spelling.{IsSpelling}

-- Parts are read as r exactly when they are a spelling of r.
abbrev pub ReadsSpellings : Type 0
ReadsSpellings = (ps : List Part) (r : SourceLine) → (reading_of Listing ps ≡ Some r) ↔ IsSpelling r ps

-- Parts are a spelling of one thing at most.
abbrev pub SpellsOne : Type 0
SpellsOne = (ps : List Part) (r s : SourceLine) → IsSpelling r ps → IsSpelling s ps → r ≡ s

-- The lexer takes the parts of the line.
abbrev pub TakesParts : Type 0
TakesParts = (line : List ℕ) (ps : List Part) → (parts Listing line ≡ ps) ↔ IsSpacing ps line

-- A line of bytes is read as r exactly when it is a spacing of a spelling of r.
abbrev pub ReadsLines : Type 0
ReadsLines = (line : List ℕ) (r : SourceLine) → (reading_of Listing (parts Listing line) ≡ Some r) ↔ ((ps : List Part) × IsSpacing ps line × IsSpelling r ps)
