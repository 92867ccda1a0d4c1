-- What a run writes and returns, as a function of its options, its information file, the
-- files that are handed in, and its input.
--
-- The refusals in order, each with its one message: the information file, no input name, the include
-- files in the order of their groups, the image. Otherwise the listing, and the warnings that apply:
-- bytes are skipped, a segment is entered again.
use Rattle.std.specs.Prelude.{ℕ, ◌+◌, Bool, if◌then◌else◌, List, [], ◌∷◌, ◌++◌, codes, decimal, is_some, Option, Some, None, Result, Ok, Err}
use Rattle.info65.specs.Words.{IncludeView, InfoView, OptionsView, fault_text, included, information}
use Rattle.da65.specs.Types.{Done, Empty, ImageFault, InfoFault, Read, Short, Status, TooLarge}
use Rattle.map65.specs.Words.{ImageView, MapView, image_of}
use Rattle.map65.specs.declared.image.ImageFault.TheVariants.{Memory}
use Rattle.da65.specs.SegmentReentry.{is_entered_again}
use Rattle.da65.specs.Files.{FileView, file_named}
use Rattle.da65.specs.Groups.{skips}
use Rattle.da65.specs.Listing.{lines_of, text_of}
use Rattle.da65.specs.declared.runs.outcome.Status.TheVariants.{Refused}

pub record Outcome : Type 0 where
  pub listing : List ℕ
  pub messages : List ℕ
  pub status : Status

-- ---- messages, each one line

-- why an information file is refused: the line of the fault in decimal, and its text
unfoldable pub info_message : InfoFault → List ℕ
info_message fault = codes "da65: info:" ++ decimal fault.line ++ codes ": " ++ fault_text fault.kind ++ 10 ∷ []

-- why an include file of this name is refused
unfoldable pub include_message : List ℕ → InfoFault → List ℕ
include_message name fault = codes "da65: include " ++ name ++ codes ":" ++ decimal fault.line ++ codes ": " ++ fault_text fault.kind ++ 10 ∷ []

-- no file of this name was handed in
unfoldable pub missing_message : List ℕ → List ℕ
missing_message name = codes "da65: cannot read include " ++ name ++ 10 ∷ []

unfoldable pub no_input_message : List ℕ
no_input_message = codes "da65: no input file" ++ 10 ∷ []

-- why an input is refused; running out of memory is no refusal and has no message
unfoldable pub image_message : ImageFault → List ℕ
image_message Read = codes "da65: cannot read the input" ++ 10 ∷ []
image_message Short = codes "da65: input is too short" ++ 10 ∷ []
image_message Empty = codes "da65: input is empty" ++ 10 ∷ []
image_message TooLarge = codes "da65: input is too large" ++ 10 ∷ []
image_message Memory = []

unfoldable pub skipped_warning : List ℕ
skipped_warning = codes "da65: warning: skipped bytes, the listing does not assemble to the image" ++ 10 ∷ []

unfoldable pub entered_warning : List ℕ
entered_warning = codes "da65: warning: a segment is entered again" ++ 10 ∷ []

-- the warnings that apply, each one line: bytes are skipped, and a segment is entered again
abbrev pub warnings_for : Bool → Bool → List ℕ
warnings_for skipped entered = (if skipped then skipped_warning else []) ++ (if entered then entered_warning else [])

-- those of a listing
abbrev pub warnings : MapView → List ℕ
warnings m = warnings_for (skips m) (is_entered_again m)

-- ---- what a run lists its input by, or the message of the first refusal before it reads any

-- a chain that stops at the first refusal
infixl 10 ◌>>=◌
abbrev pub ◌>>=◌ : {A B : Type 0} → Result A (List ℕ) → (A → Result B (List ℕ)) → Result B (List ℕ)
(Ok x) >>= f = f x
(Err message) >>= f = Err message

-- the message of a fault in the place of the fault
abbrev pub or_message : (InfoFault → List ℕ) → Result InfoView InfoFault → Result InfoView (List ℕ)
or_message message (Ok i) = Ok i
or_message message (Err fault) = Err (message fault)

-- refused without an input name
abbrev pub with_input : InfoView → Result InfoView (List ℕ)
with_input i = if is_some i.settings.input then Ok i else Err no_input_message

-- what an information file says that was read or refused
abbrev pub accepted : Result InfoView InfoFault → Result InfoView (List ℕ)
accepted read = or_message info_message read >>= with_input

-- with the names of the include file at an index, which has this name and these
-- bytes; refused if no such file is handed in
abbrev pub with_include : ℕ → List ℕ → InfoView → Option (List ℕ) → Result InfoView (List ℕ)
with_include index name i (Some bytes) = or_message (include_message name) (included i index bytes)
with_include index name i None = Err (missing_message name)

-- with the names of the include file at an index, which has the bytes of the first file with its name
abbrev pub with_file : List FileView → ℕ → IncludeView → InfoView → Result InfoView (List ℕ)
with_file files index x i = with_include index x.file i (file_named files x.file)

-- with the names of these include files, one after the other, the first of which is at an index
unfoldable pub with_includes : List FileView → ℕ → List IncludeView → InfoView → Result InfoView (List ℕ)
with_includes files index [] i = Ok i
with_includes files index (x ∷ xs) i = with_file files index x i >>= with_includes files (index + 1) xs

-- with the names of all its include files, in the order of their groups
abbrev pub with_all_includes : List FileView → InfoView → Result InfoView (List ℕ)
with_all_includes files i = with_includes files 0 i.includes i

-- What an information file that was read or refused gives with the files that are handed in. Refused for the first of
-- these: a fault of the information file, no input name, an include file that is not handed in or has a fault.
unfoldable pub prepared_by : Result InfoView InfoFault → List FileView → Result InfoView (List ℕ)
prepared_by read files = accepted read >>= with_all_includes files

-- what these options, the bytes of the information file and the files that are handed in give
abbrev pub prepared : OptionsView → List ℕ → List FileView → Result InfoView (List ℕ)
prepared options info files = prepared_by (information options info) files

-- ---- the outcome

-- a refusal: no listing, and one message
abbrev pub refusal_with : List ℕ → Outcome
refusal_with message = record { listing = []; messages = message; status = Refused }

-- the listing of a map, and the warnings that apply
abbrev pub done : MapView → Outcome
done m = record { listing = text_of (lines_of m); messages = warnings m; status = Done }

abbrev pub outcome_by_image : InfoView → Result ImageView ImageFault → Outcome
outcome_by_image i (Ok image) = done (record { info = i; image = image })
outcome_by_image i (Err fault) = refusal_with (image_message fault)

-- refused before the input is read, else by the image
abbrev pub outcome_by : Result InfoView (List ℕ) → List ℕ → Bool → Outcome
outcome_by (Ok i) bytes failed = outcome_by_image i (image_of i.settings bytes failed)
outcome_by (Err message) bytes failed = refusal_with message

-- The outcome for these options, the bytes of the information file, the files that are handed in, and the bytes of the
-- input. `failed` says whether a read failed among those that are asked of the input.
abbrev pub outcome_of : OptionsView → List ℕ → List FileView → List ℕ → Bool → Outcome
outcome_of options info files bytes failed = outcome_by (prepared options info files) bytes failed
