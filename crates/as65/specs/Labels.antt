-- The names of a listing for emulators, as ld65 writes them with `-Ln`.
use Rattle.std.specs.Prelude.{ℕ, List, [], ◌∷◌, ◌++◌, codes, nat_lt, if◌then◌else◌}
use Rattle.std.specs.List.{flat_map}
use Rattle.stmt65.specs.Words.{Definition, held_definitions, source_definitions}
use Rattle.as65.specs.Types.{Source}
use Rattle.text65.specs.Digits.{digits4}

-- `al 00FE04 .name` for a value that is an address, and no line for any other
abbrev pub label_line : Definition → List ℕ
label_line d = if nat_lt d.value 65536 then codes "al 00" ++ digits4 d.value ++ codes " ." ++ d.name ++ 10 ∷ [] else []

-- the lines of names, in their order
abbrev pub labels_of : List Definition → List ℕ
labels_of definitions = flat_map label_line definitions

-- those of the names that a source defines
abbrev pub source_labels : {L : Type 0} → Source L → List ℕ
source_labels s = labels_of (held_definitions (source_definitions s))
