-- The parts of a line, and what a number counts.
use Rattle.std.specs.Prelude.{ℕ, Bool, false, List, [], ◌∷◌, drop, get_or, ◌==◌, if◌then◌else◌}
use Rattle.std.specs.Str.Parse.{digits_value}
use Rattle.stmt65.specs.Signs.{dollar, percent, apostrophe}

-- a word and a number as they are written, the bytes between the quotes of a string, `:=`, or any other byte by itself
pub data Part : Type 0 where
  Word : List ℕ → Part
  Number : List ℕ → Part
  Text : List ℕ → Part
  Define : Part
  Mark : ℕ → Part

abbrev pub begins_with : ℕ → List ℕ → Bool
begins_with b [] = false
begins_with b (c ∷ cs) = c == b

-- what a number counts as it is written: decimal digits, `$` and hex digits, `%` and binary
-- digits, or a character between apostrophes
unfoldable pub number_of : List ℕ → ℕ
number_of text =
    if begins_with dollar text then digits_value 16 (drop 1 text)
    else (if begins_with percent text then digits_value 2 (drop 1 text)
    else (if begins_with apostrophe text then get_or (drop 1 text) 0 0
    else digits_value 10 text))
