-- Labels before the names inside their instructions: what stays.
--
-- The lines `NAME := * + n` stay as they are and in their order, and so does what the other lines have but blanks and
-- line feeds.
use Rattle.std.specs.Prelude.{◌≡◌, ◌++◌, ℕ, Bool, true, false, not, List, [], ◌∷◌, Option, Some, if◌then◌else◌}
use Rattle.std.specs.List.{filter, flat_map}
use Rattle.text65.specs.Lines.{text_lines}
use Rattle.text65.specs.Names.{is_blank}
use Rattle.stmt65.specs.Words.{PlaceAssignment, SourceLine, parts, reading_of}
use Rattle.stmt65.specs.declared.language.Language.{Language}

-- a line `NAME := * + n`
abbrev pub is_place : Option SourceLine → Bool
is_place (Some (PlaceAssignment name n)) = true
is_place _ = false

abbrev pub is_place_line : Language → List ℕ → Bool
is_place_line language line = is_place (reading_of language (parts language line))

-- what a line has but blanks
abbrev pub without_blanks : List ℕ → List ℕ
without_blanks line = filter (λ b. not (is_blank b)) line

abbrev pub place_in : Language → List ℕ → List ℕ
place_in language line = if is_place_line language line then line ++ 10 ∷ [] else []

abbrev pub other_in : Language → List ℕ → List ℕ
other_in language line = if is_place_line language line then [] else without_blanks line

-- the lines `NAME := * + n` among these, and what the others have but blanks
abbrev pub places_in : Language → List (List ℕ) → List ℕ
places_in language lines = flat_map (place_in language) lines

abbrev pub others_in : Language → List (List ℕ) → List ℕ
others_in language lines = flat_map (other_in language) lines

pub record IsReordered (language : Language) (old new : List ℕ) : Type 0 where
  pub places : places_in language (text_lines old) ≡ places_in language (text_lines new)
  pub others : others_in language (text_lines old) ≡ others_in language (text_lines new)
