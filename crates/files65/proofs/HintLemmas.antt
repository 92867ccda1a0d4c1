-- What is said of a fault has some hint.
use Rattle.std.proofs.Common.{◌≡◌, ℕ, List}
use Rattle.stmt65.specs.declared.assembling.assembler.Source.{Source}
use Rattle.stmt65.specs.declared.assembling.fault.AsmFault.{AsmFault}
use Rattle.files65.specs.FaultyLine.{about}

pub said : {L : Type 0} (fault : AsmFault) (s : Source L) (hint text : List ℕ) → text ≡ about hint fault s → (h : List ℕ) × (text ≡ about h fault s)
said fault s hint text e = (hint, e)
