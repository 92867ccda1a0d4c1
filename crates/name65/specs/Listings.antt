-- The listing by names that a command line asks for.
use Rattle.std.specs.Prelude.{◌≡◌, ℕ, Bool, true, false, List}
use Rattle.stmt65.specs.declared.language.Language.TheVariants.{Repair}
use Rattle.files65.specs.Place.{layout_of, start_in}
use Rattle.name65.specs.NamedText.{IsNamed, Listing, MeansTheSame}
use Rattle.name65.specs.Reordered.{IsReordered}
use Rattle.name65.specs.declared.setup.Setup.{Setup}

-- a text as people edit it, from a start, with the segments of the information file at their START if a byte fills what
-- is missing before them
abbrev pub edited : Setup → ℕ → List ℕ → Listing
edited setup start text = record { language = Repair; layout = layout_of setup.info.now.segments setup.naming.now.fill; start = start; text = text }

-- a listing as it is, or with its labels first
abbrev pub IsTaken : Bool → Listing → List ℕ → Type 0
IsTaken false l taken = taken ≡ l.text
IsTaken true l taken = IsReordered l.language l.text taken

-- the start of the information file, or else the one from which the last byte is at $FFFF
abbrev pub start_of : Setup → List ℕ → ℕ
start_of setup text = start_in (layout_of setup.info.now.segments setup.naming.now.fill) text setup.info.now.settings.start

-- The text is the listing by names: from its start, if that is asked for with labels first, and by the groups and the
-- names of the information file.
pub record IsWritten (setup : Setup) (text written : List ℕ) : Type 0 where
  pub taken : List ℕ
  pub is_taken : IsTaken setup.naming.now.labels_first (edited setup (start_of setup text) text) taken
  pub named : IsNamed (edited setup (start_of setup text) taken) setup written
  pub same : MeansTheSame (edited setup (start_of setup text) text) written
