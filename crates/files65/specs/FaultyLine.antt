-- What is reported of a listing that does not assemble.
use Rattle.std.specs.Prelude.{◌≡◌, ◌==◌, ◌⊎◌, ℕ, List, [], ◌++◌, Err, codes, length, if◌then◌else◌}
use Rattle.std.specs.String.{string_bytes}
use Rattle.stmt65.specs.Words.{out_of_memory, source_meaning}
use Rattle.stmt65.specs.declared.assembling.assembler.Source.{Source}
use Rattle.stmt65.specs.declared.assembling.fault.AsmFault.{AsmFault}
use Rattle.files65.specs.Shown.{line_at, shown_line}
use Rattle.files65.specs.declared.failure.Failure.{Failure}
use Rattle.files65.specs.declared.failure.Failure.TheVariants.{Line, Memory}

-- `: hint`
abbrev pub hint_text : List ℕ → List ℕ
hint_text hint = if length hint == 0 then [] else codes ": " ++ hint

-- what comes after the text of a fault: a hint, which no definition says and which may be empty, and the line
unfoldable pub about : {L : Type 0} → List ℕ → AsmFault → Source L → List ℕ
about hint fault s = hint_text hint ++ codes ": " ++ shown_line (line_at fault.line s.text.now)

-- a source has this fault, or memory ran out
abbrev pub FailsWith : {L : Type 0} → AsmFault → Source L → Type 0
FailsWith fault s = (source_meaning s ≡ Err fault) ⊎ (fault ≡ out_of_memory)

-- the failure reports the fault of the listing of this name, with a hint and the line, unless memory ran out
abbrev pub Reports : {L R : Type 0} → List ℕ → Source L → Failure R → Type 0
Reports name s Memory = Unit {0}
Reports name s (Line listing fault said) = (string_bytes listing ≡ name) × (source_meaning s ≡ Err fault) × ((hint : List ℕ) × (said.items ≡ about hint fault s))
Reports name s _ = ⊥

-- so it does if it is about a line of the listing
abbrev pub MayReport : {L R : Type 0} → List ℕ → Source L → Failure R → Type 0
MayReport name s (Line listing fault said) = (string_bytes listing ≡ name) × (source_meaning s ≡ Err fault) × ((hint : List ℕ) × (said.items ≡ about hint fault s))
MayReport name s _ = Unit {0}

-- what is said after the text of a failure
abbrev pub said_after : {R : Type 0} → Failure R → List ℕ
said_after (Line listing fault said) = said.items
said_after _ = []
