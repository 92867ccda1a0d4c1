-- What contracts see of include files.
use Rattle.std.specs.Prelude.{◌≡◌, ◌++◌, ℕ, List, Option, Result, Ok, Err, option_map, option_to_list}
use Rattle.info65.specs.Code.Names.{given_seen}
use Rattle.info65.specs.Code.Results.{Fails}
use Rattle.info65.specs.Includes.{included, names_included}
use Rattle.info65.specs.Labels.{by_address}
use Rattle.info65.specs.Names.{AreGiven}
use Rattle.info65.specs.Views.{IncludeView, InfoView, NameView}
use Rattle.info65.specs.Types.{Given, InfoFault, InfoFaultKind, NamedFile}

abbrev pub named_seen : NamedFile → IncludeView
named_seen n = record { file = n.file.now; comment_start = n.comment_start; ignore_unknown = n.ignore_unknown }

abbrev pub name_result_seen : Result (Option Given) InfoFaultKind → Result (Option NameView) InfoFaultKind
name_result_seen (Ok n) = Ok (option_map given_seen n)
name_result_seen (Err f) = Err f

-- the names with what a line adds
abbrev pub with_added : List NameView → Result (Option NameView) InfoFault → Result (List NameView) InfoFault
with_added names (Ok added) = Ok (names ++ option_to_list added)
with_added names (Err e) = Err e

-- the names before a file and those of the file, in the order in which they stand, or the file's fault
abbrev pub ReadsFile : IncludeView → List NameView → List ℕ → Result (List NameView) InfoFault → Type 0
ReadsFile file names bytes (Ok all) = (names_included file names bytes ≡ Ok (by_address all)) × (AreGiven names → AreGiven all)
ReadsFile file names bytes (Err e) = Fails e (names_included file names bytes)

-- The information is the one with the names of the include file. In a refusal, out of memory among them, it
-- is as before.
abbrev pub Includes : {X : Type 0} → InfoView → ℕ → List ℕ → Result X InfoFault → InfoView → Type 0
Includes old index bytes (Ok _) new = included old index bytes ≡ Ok new
Includes old index bytes (Err e) new = Fails e (included old index bytes) × (new ≡ old)
