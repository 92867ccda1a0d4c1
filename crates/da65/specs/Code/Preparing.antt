-- What the preparation of a run returns: what the run lists its input by, or why there is nothing to list.
use Rattle.std.specs.Prelude.{◌≡◌, ℕ, List, Result, Ok, Err, get_or}
use Rattle.info65.specs.Words.{AreNames, Fails, Gives, IncludeView, InfoView, NameView, with_names}
use Rattle.da65.specs.Types.{InfoFault, Stop}
use Rattle.da65.specs.Files.{FileView}
use Rattle.da65.specs.Outcome.{◌>>=◌, or_message, prepared_by, with_all_includes, with_file, with_input}
use Rattle.da65.specs.declared.runs.preparing.Stop.TheVariants.{Memory, Refused}

-- a refusal is the one that is expected, unless memory ran out
abbrev pub Stops : Stop → Result InfoView (List ℕ) → Type 0
Stops (Refused message) expected = expected ≡ Err message.items
Stops Memory expected = Unit {0}

-- of what fails with the fault, and has this message then
abbrev pub StopsFor : InfoFault → List ℕ → Stop → Type 0
StopsFor fault message stop =
    (of : InfoFault → List ℕ) (defined : Result InfoView InfoFault) → message ≡ of fault → Fails fault defined → Stops stop (or_message of defined)

-- the result is the expected one, unless memory ran out
abbrev pub Prepares : Result InfoView Stop → Result InfoView (List ℕ) → Type 0
Prepares (Ok i) expected = expected ≡ Ok i
Prepares (Err stop) expected = Stops stop expected

-- the same of a call that returns the names of the information
abbrev pub GivesNames : Result (List NameView) Stop → InfoView → Result InfoView (List ℕ) → Type 0
GivesNames (Ok names) i expected = (expected ≡ Ok (with_names i names)) × AreNames names
GivesNames (Err stop) i expected = Stops stop expected

-- what an information that was accepted gives with the files that are handed in
abbrev pub listed_by : List FileView → InfoView → Result InfoView (List ℕ)
listed_by files i = with_input i >>= with_all_includes files

-- the same of a call that makes the information what is expected
abbrev pub AddsNames : {U : Type 0} → Result U Stop → InfoView → Result InfoView (List ℕ) → Type 0
AddsNames (Ok x) now expected = expected ≡ Ok now
AddsNames (Err stop) now expected = Stops stop expected

-- this is the name of the include file at an index
abbrev pub IsNameAt : InfoView → ℕ → List ℕ → Type 0
IsNameAt i index name = (x : IncludeView) → x ≡ get_or i.includes index x → name ≡ x.file

-- the result is the information with the names of the include file at an index
abbrev pub PreparesWith : Result InfoView Stop → List FileView → ℕ → InfoView → Type 0
PreparesWith result files index i = (x : IncludeView) → x ≡ get_or i.includes index x → Prepares result (with_file files index x i)

-- it is the names with those of all include files
abbrev pub NamesAll : Result (List NameView) Stop → List FileView → InfoView → Type 0
NamesAll result files i = GivesNames result i (with_all_includes files i)

-- it is what an information file gives that was read or refused
abbrev pub PreparesBy : Result InfoView Stop → Result InfoView InfoFault → List FileView → Type 0
PreparesBy result read files = (defined : Result InfoView InfoFault) → Gives (λ i. i) read defined → Prepares result (prepared_by defined files)
