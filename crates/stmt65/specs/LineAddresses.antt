-- The address after each line of a text, and the line that gives a byte.
use Rattle.std.specs.Prelude.{◌≡◌, ◌<◌, ◌≤◌, ℕ, ◌+◌, List, ◌∷◌, ◌++◌, length, map, nat_le, Option, Ok}
use Rattle.std.specs.List.{flat_map, prefix_len}
use Rattle.stmt65.specs.SourceLine.{SourceLine}
use Rattle.stmt65.specs.Layout.{Layout}
use Rattle.stmt65.specs.Symbols.{Definition}
use Rattle.stmt65.specs.Meaning.{after, meaning_of}
use Rattle.stmt65.specs.TextLaws.{Line, line_bytes, lines_of, names_of}

-- the address after a line
abbrev pub address_after : Line → ℕ
address_after line = (after line.state line.says).at

-- the address after each line of a text, in order
unfoldable pub line_addresses : Layout → ℕ → List (Option SourceLine) → List ℕ
line_addresses layout start ls = map address_after (lines_of layout start ls)

-- the number, from 1, of the first line after which the address is greater than this one
abbrev pub line_past : ℕ → List ℕ → ℕ
line_past address addresses = prefix_len (λ a. nat_le a address) addresses + 1

-- Line n, counted from 1, gives the byte at this offset.
pub record GivesByte (all : List Definition) (lines : List Line) (offset n : ℕ) : Type 0 where
  pub above : List Line
  pub line : Line
  pub below : List Line
  pub parts : lines ≡ above ++ line ∷ below
  pub number : n ≡ length above + 1
  pub begins : length (flat_map (line_bytes all) above) ≤ offset
  pub ends : offset < length (flat_map (line_bytes all) above) + length (line_bytes all line)

-- Each byte of a text is given by the first line after which the address is greater than that of the byte.
abbrev pub FindsLine : Type 0
FindsLine = (layout : Layout) (start : ℕ) (ls : List (Option SourceLine)) (bytes : List ℕ) (offset : ℕ) → meaning_of layout start ls ≡ Ok bytes → offset < length bytes
    → GivesByte (names_of layout start ls) (lines_of layout start ls) offset (line_past (start + offset) (line_addresses layout start ls))
