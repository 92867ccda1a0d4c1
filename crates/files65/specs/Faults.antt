-- What the faults of files are.
use Rattle.std.specs.Prelude.{◌≡◌, ℕ, List, MatchOption, Option, Result, Err}
use Rattle.std.specs.String.{string_bytes}
use Rattle.map65.specs.Words.{one_more}
use Rattle.info65.specs.Words.{InfoView, OptionsView, no_options}
use Rattle.info65.specs.declared.fault.InfoFault.{InfoFault}
use Rattle.info65.specs.declared.fault.InfoFaultKind.{InfoFaultKind}
use Rattle.info65.specs.declared.fault.InfoFaultKind.TheVariants as kind
use Rattle.files65.specs.declared.failure.Failure.{Failure}
use Rattle.files65.specs.declared.failure.Failure.TheVariants as failure
use Rattle.files65.specs.declared.fault.FileFault.{FileFault}
use Rattle.files65.specs.declared.fault.FileFault.TheVariants.{Memory, Reading, Empty}

-- the file of this name can't be read, or there is no memory to say so
abbrev pub IsUnread : List ℕ → FileFault → Type 0
IsUnread name Memory = Unit {0}
IsUnread name (Reading text) = string_bytes text ≡ name
IsUnread name _ = ⊥

-- the listing of this name has no bytes, or there is no memory to say so
abbrev pub IsEmpty : List ℕ → FileFault → Type 0
IsEmpty name Memory = Unit {0}
IsEmpty name (Empty text) = string_bytes text ≡ name
IsEmpty name _ = ⊥

-- the count of failed reads rises by one exactly if there are no contents
abbrev pub CountsMissing : {A : Type 0} → ℕ → ℕ → Option A → Type 0
CountsMissing old new found = MatchOption found (new ≡ one_more old) (λ _. new ≡ old)

-- the failure for a fault of an information file
abbrev pub failure_for : {R : Type 0} → InfoFault → Failure R
failure_for {R} fault = of_kind fault.kind
  where
    of_kind : InfoFaultKind → Failure R
    of_kind kind.Memory = failure.Memory
    of_kind _ = failure.Info fault

-- the failure is the fault of the file, unless memory ran out
abbrev pub IsRefused : {R : Type 0} → Result InfoView InfoFault → Failure R → Type 0
IsRefused information failure.Memory = Unit {0}
IsRefused information (failure.Info fault) = information ≡ Err fault
IsRefused information (failure.NamedTwice fault line name) = information ≡ Err fault
IsRefused information _ = ⊥

-- no option but the start
abbrev pub options_at : Option ℕ → OptionsView
options_at start = record no_options { start = start }
