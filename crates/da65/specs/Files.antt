-- The files that a caller hands in.
use Rattle.std.specs.Prelude.{ℕ, List, [], ◌∷◌, map, Option, Some, None, if◌then◌else◌}
use Rattle.std.specs.Str.{bytes_eq}
use Rattle.da65.specs.Types.{File}

-- a file: the name by which the information file includes it, and its bytes
pub record FileView : Type 0 where
  pub name : List ℕ
  pub bytes : List ℕ

abbrev pub file_seen : File → FileView
file_seen f = record { name = f.name.now; bytes = f.bytes.now }

abbrev pub files_seen : List File → List FileView
files_seen fs = map file_seen fs

-- the bytes of the first file of this name
unfoldable pub file_named : List FileView → List ℕ → Option (List ℕ)
file_named [] name = None
file_named (f ∷ fs) name = if bytes_eq f.name name then Some f.bytes else file_named fs name
