-- What a run that is done wrote, assembled, gives back the image.
use Rattle.std.specs.Prelude.{◌≡◌, ℕ, Bool, false, List, Option, Result, Ok, Err}
use Rattle.std.specs.Io.KnownBytes.{Appends}
use Rattle.stmt65.specs.Words.{free, meaning, meaning_in}
use Rattle.info65.specs.Words.{InfoView}
use Rattle.map65.specs.Words.{ImageView, image_of}
use Rattle.da65.specs.Types.{Done, ImageFault, Repair, RunFault, Status}
use Rattle.da65.specs.Groups.{skips}
use Rattle.da65.specs.declared.runs.outcome.Status.TheVariants.{Refused}

-- a text was written that means the image's bytes, from its start, both as a listing and as the repair that people edit
pub record Took (image : ImageView) (old new : Option (List ℕ)) : Type 0 where
  pub text : List ℕ
  pub taken : Appends old new text
  pub means : meaning image.start text ≡ Ok image.bytes
  pub repaired : meaning_in Repair free image.start text ≡ Ok image.bytes

-- there is an image, and where none of its bytes is skipped such a text was written
abbrev pub TookImage : InfoView → Result ImageView ImageFault → Option (List ℕ) → Option (List ℕ) → Type 0
TookImage i (Ok image) old new = skips (record { info = i; image = image }) ≡ false → Took image old new
TookImage i (Err fault) old new = ⊥

-- the same of the image that an input gives, whose reader failed or not, if the run is not refused before it reads
abbrev pub TookImageOf : Result InfoView (List ℕ) → List ℕ → Bool → Option (List ℕ) → Option (List ℕ) → Type 0
TookImageOf (Ok i) bytes failed old new = TookImage i (image_of i.settings bytes failed) old new
TookImageOf (Err message) bytes failed old new = ⊥

-- where the answer is Done and no byte of the image is skipped, what was written on the output
-- means the image's bytes, from its start
abbrev pub Reassembles : Result Status RunFault → Result InfoView (List ℕ) → List ℕ → Bool → Option (List ℕ) → Option (List ℕ) → Type 0
Reassembles (Ok Done) info bytes failed old new = TookImageOf info bytes failed old new
Reassembles (Ok Refused) info bytes failed old new = Unit {0}
Reassembles (Err fault) info bytes failed old new = Unit {0}
