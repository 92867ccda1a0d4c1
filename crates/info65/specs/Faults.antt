-- What an information file can be refused for.
use Rattle.std.specs.Prelude.{ℕ, List, Result, Ok, Err, codes}
use Rattle.info65.specs.Types.{InfoFault, InfoFaultKind}
use Rattle.info65.specs.declared.fault.InfoFaultKind.TheVariants as kind

-- the text of a fault in a message
abbrev pub fault_text : InfoFaultKind → List ℕ
fault_text kind.BadByte = codes "bad byte"
fault_text kind.OpenString = codes "string not closed"
fault_text kind.BadNumber = codes "bad number"
fault_text kind.Expected = codes "something else expected"
fault_text kind.UnknownGroup = codes "unknown group"
fault_text kind.UnknownAttribute = codes "unknown attribute"
fault_text kind.GivenTwice = codes "attribute given twice"
fault_text kind.Missing = codes "attribute missing"
fault_text kind.OutOfRange = codes "value out of range"
fault_text kind.RangesOverlap = codes "ranges overlap"
fault_text kind.SegmentsOverlap = codes "segments overlap"
fault_text kind.BadName = codes "bad name"
fault_text kind.ReservedName = codes "reserved name"
fault_text kind.NameTwice = codes "name given twice"
fault_text kind.AddressTwice = codes "address named twice"
fault_text kind.BadInclude = codes "bad include line"
fault_text kind.NameConflict = codes "name given in both places"
fault_text kind.TooLarge = codes "too large"
fault_text kind.Memory = codes "out of memory"

-- a fault of a kind at a line
abbrev pub fault : ℕ → InfoFaultKind → InfoFault
fault line k = record { line = line; kind = k }

-- out of memory has line 0
abbrev pub out_of_memory : InfoFault
out_of_memory = fault 0 kind.Memory

-- a chain that stops at its first fault
infixl 10 ◌>>=◌
abbrev pub ◌>>=◌ : {A B : Type 0} → Result A InfoFault → (A → Result B InfoFault) → Result B InfoFault
(Ok x) >>= f = f x
(Err e) >>= f = Err e
