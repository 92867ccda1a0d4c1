-- What the definitions of a text are for a source: a text, its language, and where it and its segments begin.
use Rattle.std.specs.Prelude.{ℕ, List, Option, Result}
use Rattle.stmt65.specs.declared.assembling.assembler.Source.{Source}
use Rattle.stmt65.specs.Types.{AsmFault}
use Rattle.stmt65.specs.Coding.{State}
use Rattle.stmt65.specs.Definitions.{definitions_of}
use Rattle.stmt65.specs.LineAddresses.{line_addresses}
use Rattle.stmt65.specs.Meaning.{initial, meaning_in, readings}
use Rattle.stmt65.specs.SourceLine.{SourceLine}
use Rattle.stmt65.specs.Symbols.{Definition}

-- what its lines say
abbrev pub source_readings : {L : Type 0} → Source L → List (Option SourceLine)
source_readings s = readings s.language s.text.now

-- what stands above its first line
abbrev pub source_state : {L : Type 0} → Source L → State
source_state s = initial s.layout.now s.start

-- what it means
abbrev pub source_meaning : {L : Type 0} → Source L → Result (List ℕ) AsmFault
source_meaning s = meaning_in s.language s.layout.now s.start s.text.now

-- what it defines
abbrev pub source_definitions : {L : Type 0} → Source L → List Definition
source_definitions s = definitions_of s.language s.layout.now s.start s.text.now

-- the address after each of its lines
abbrev pub source_addresses : {L : Type 0} → Source L → List ℕ
source_addresses s = line_addresses s.layout.now s.start (source_readings s)
