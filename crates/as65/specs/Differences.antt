-- The lines that say where a listing and an image differ.
use Rattle.std.specs.Prelude.{◌≡◌, ◌==◌, ℕ, ◌+◌, ◌-◌, List, [], ◌∷◌, ◌++◌, codes, decimal, drop, flat_map, get_or, length, take, if◌then◌else◌}
use Rattle.text65.specs.Digits.{digits4}
use Rattle.stmt65.specs.Words.{digits2, line_past}
use Rattle.files65.specs.Shown.{dots_above, shown, trimmed}
use Rattle.as65.specs.Compared.{Compared}
use Rattle.as65.specs.Stretches.{AreRuns, differs}
use Rattle.as65.specs.Types.{Stretch}

-- ---- what is shown of bytes and of a line

-- ` hh`
abbrev pub spaced : ℕ → List ℕ
spaced b = 32 ∷ digits2 b

-- at most eight bytes
abbrev pub shown_bytes : List ℕ → List ℕ
shown_bytes bytes = flat_map spaced (take 8 bytes) ++ dots_above 8 (length bytes)

-- ---- the lines

-- the bytes of a stretch
abbrev pub stretch_bytes : Stretch → List ℕ → List ℕ
stretch_bytes s bytes = take (s.end - s.at) (drop s.at bytes)

-- `$hhhh: hh hh -> hh hh`
unfoldable pub change_text : ℕ → List ℕ → List ℕ → List ℕ
change_text address image bytes = codes "$" ++ digits4 address ++ codes ":" ++ shown_bytes image ++ codes " ->" ++ shown_bytes bytes

-- `, line n: ..`, of a line without the blanks around it, and the end of the line
unfoldable pub origin_text : ℕ → List ℕ → List ℕ
origin_text number line = codes ", line " ++ decimal number ++ codes ": " ++ shown line ++ codes "\n"

-- `$hhhh: hh hh -> hh hh, line n: ..`
abbrev pub stretch_line : ℕ → List ℕ → List ℕ → ℕ → List ℕ → List ℕ
stretch_line address image bytes number line = change_text address image bytes ++ origin_text number (trimmed line)

-- the line that gives the first byte of a stretch, from 1
abbrev pub number_of : Compared → Stretch → ℕ
number_of c s = line_past (c.start + s.at) c.ends

-- the line of a stretch
abbrev pub line_of : Compared → Stretch → List ℕ
line_of c s =
    stretch_line (c.start + s.at) (stretch_bytes s c.image) (stretch_bytes s c.bytes) (number_of c s) (get_or c.lines (number_of c s - 1) [])

-- if there are not as many bytes, a line says how many there are
unfoldable pub lengths_line : ℕ → ℕ → List ℕ
lengths_line had has = if had == has then [] else codes "the image has " ++ decimal had ++ codes " bytes, the listing " ++ decimal has ++ codes "\n"

-- a line for each stretch, and one for lengths that differ
abbrev pub difference_lines : Compared → List Stretch → List ℕ
difference_lines c found = flat_map (line_of c) found ++ lengths_line (length c.image) (length c.bytes)

-- the text has a line for each run of bytes that differ, in order, and one for lengths that differ
pub record AreDifferences (c : Compared) (text : List ℕ) : Type 0 where
  pub found : List Stretch
  pub runs : AreRuns (differs c.image c.bytes) 0 found
  pub lines : text ≡ difference_lines c found
