-- What a command line asks for that names files, and why it is refused.
use Rattle.std.specs.Prelude.{◌≡◌, ◌||◌, List, Option, Some, None, Result, Ok, Err, if◌then◌else◌}
use Rattle.std.specs.Str.{bytes_eq}
use Rattle.std.specs.String.{string_bytes}
use Rattle.clap.specs.Words.{Row, Text}
use Rattle.usage65.specs.Choices.{ProgramView}
use Rattle.usage65.specs.Command.{command_of}
use Rattle.usage65.specs.FileNames.{is_name, is_taken}
use Rattle.usage65.specs.Help.{text_asked}
use Rattle.usage65.specs.Values.{accepted, ◌>>=◌}
use Rattle.usage65.specs.declared.fault.UsageFault.{UsageFault}
use Rattle.usage65.specs.declared.fault.UsageFault.TheVariants.{Memory}
use Rattle.usage65.specs.declared.request_fault.RequestFault.{RequestFault}
use Rattle.usage65.specs.declared.request_fault.RequestFault.TheVariants as fault

-- why a command line is refused
pub data Refusal : Type 0 where
  BadUsage : UsageFault → Refusal
  LacksStart : Refusal
  SameName : Text → Refusal
  TwoOfStandardInput : Refusal

-- the fault for one of the words or of their values
abbrev pub fault_for : UsageFault → RequestFault
fault_for Memory = fault.Memory
fault_for e = fault.Usage e

-- the fault is the refusal of the definition, unless memory ran out
abbrev pub Fails : {A : Type 0} → RequestFault → Result A Refusal → Type 0
Fails fault.Memory defined = Unit {0}
Fails (fault.Usage e) defined = defined ≡ Err (BadUsage e)
Fails fault.NoStart defined = defined ≡ Err LacksStart
Fails (fault.OutputIsInput name) defined = defined ≡ Err (SameName (string_bytes name))
Fails fault.StandardTwice defined = defined ≡ Err TwoOfStandardInput

-- the result, seen by `seen`, is the one of the definition, unless memory ran out
abbrev pub Gives : {X A : Type 0} → (X → A) → Result X RequestFault → Result A Refusal → Type 0
Gives seen (Ok x) defined = defined ≡ Ok (seen x)
Gives seen (Err e) defined = Fails e defined

-- the value, or the refusal for its fault
abbrev pub or_refused : {A : Type 0} → Result A UsageFault → Result A Refusal
or_refused (Ok x) = Ok x
or_refused (Err e) = Err (BadUsage e)

-- a listing, an information file, and the output; None is standard output
pub record FileNamesView : Type 0 where
  pub listing : Text
  pub info : Option Text
  pub output : Option Text

-- the output is none of the inputs
abbrev pub names_into : Text → Option Text → Option Text → Result FileNamesView Refusal
names_into listing info None = Ok (record { listing = listing; info = info; output = None })
names_into listing info (Some output) =
    if bytes_eq output listing || is_name info output then Err (SameName output)
    else Ok (record { listing = listing; info = info; output = Some output })

-- standard input can be only one of the inputs
unfoldable pub names_apart : Text → Option Text → Option Text → Result FileNamesView Refusal
names_apart listing info output = if is_taken info listing then Err TwoOfStandardInput else names_into listing info output

-- what is asked for: a text about the program, or a run of it
pub data Asked (A : Type 0) : Type 0 where
  AskText : Text → Asked A
  AskRun : A → Asked A

-- the text that is asked for, and else the run, for which alone the values of the options count
abbrev pub asked_beside : {A : Type 0} → Option Text → Result A Refusal → Result (Asked A) Refusal
asked_beside (Some text) run = Ok (AskText text)
asked_beside None run = run >>= λ a. Ok (AskRun a)

abbrev pub asked_in : {A : Type 0} → ProgramView → (List Row → Result A Refusal) → List Row → Result (Asked A) Refusal
asked_in p run rows = asked_beside (text_asked p rows) (run rows)

-- what the words ask for, of which the first is the program's name; `run` says which run the matches ask for
abbrev pub asked : {A : Type 0} → ProgramView → (List Row → Result A Refusal) → List Text → Result (Asked A) Refusal
asked p run words = or_refused (accepted (command_of p) words) >>= asked_in p run
