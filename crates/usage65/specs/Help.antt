-- The texts that a program prints about itself.
--
-- The usage line, and a line for each option: two blanks, names and value in 25 columns, and the purpose. The version
-- is the name, ` profile 1` and a line feed.
use Rattle.std.specs.Prelude.{ℕ, List, [], ◌∷◌, Option, Some, None, ◌++◌, ◌-◌, codes, flat_map, if◌then◌else◌, length, replicate}
use Rattle.clap.specs.Words.{Row, Text}
use Rattle.usage65.specs.Choices.{ChoiceView, ProgramView}
use Rattle.usage65.specs.Values.{is_set}

-- the text as a line
abbrev pub with_line_feed : Text → Text
with_line_feed text = text ++ 10 ∷ []

-- the text, filled with blanks up to this many columns
abbrev pub filled : ℕ → Text → Text
filled columns text = text ++ replicate (columns - length text) 32

-- `-i, --info`, or the one of the two that there is
abbrev pub names : Option ℕ → Option Text → Text
names (Some letter) (Some long) = codes "-" ++ letter ∷ codes ", --" ++ long
names (Some letter) None = codes "-" ++ letter ∷ []
names None (Some long) = codes "--" ++ long
names None None = []

-- the blank and the value after the names
abbrev pub with_value : Option Text → Text
with_value None = []
with_value (Some value) = codes " " ++ value

abbrev pub names_and_value : ChoiceView → Text
names_and_value c = names c.short c.long ++ with_value c.value

-- an option's line: two blanks, its names and value in 25 columns, then its purpose
abbrev pub help_line : ChoiceView → Text
help_line c = with_line_feed (codes "  " ++ filled 25 (names_and_value c) ++ c.purpose)

-- what stands before the options, and a line for each option
unfoldable pub help_of : ProgramView → Text
help_of p = with_line_feed p.usage ++ flat_map help_line p.choices

unfoldable pub version_of : ProgramView → Text
version_of p = with_line_feed (p.name ++ codes " profile 1")

-- the text that is asked for, if one is: help comes first, then the version
unfoldable pub text_asked : ProgramView → List Row → Option Text
text_asked p rows =
    if is_set (codes "help") rows then Some (help_of p)
    else (if is_set (codes "version") rows then Some (version_of p) else None)
