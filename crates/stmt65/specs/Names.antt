-- Words without regard to case, and names.
use Rattle.std.specs.Prelude.{ℕ, Bool, ◌&&◌, not, List}
use Rattle.std.specs.Str.{str_eq_ignore_ascii_case}
use Rattle.text65.specs.Names.{has_name_form, is_reserved_word}

-- the same word, in any case
abbrev pub same : List ℕ → List ℕ → Bool
same w text = str_eq_ignore_ascii_case w text

-- what can stand in the place of a name
unfoldable pub is_name : List ℕ → Bool
is_name w = has_name_form w && not (is_reserved_word w)
