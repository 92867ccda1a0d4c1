-- What the assembler returns.
use Rattle.std.specs.Prelude.{◌≡◌, ◌⊎◌, ℕ, List, Result, Ok, Err}
use Rattle.std.specs.declared.vec.Vec.{Vec}
use Rattle.stmt65.specs.Types.{AsmFault, Explained, Memory}

-- if memory was refused
abbrev pub out_of_memory : AsmFault
out_of_memory = record { line = 0; kind = Memory }

-- the bytes of the meaning or its fault; or out of memory in place of either
abbrev pub Assembles : {A : Type 0} → Result (Vec ℕ A) AsmFault → Result (List ℕ) AsmFault → Type 0
Assembles (Ok v) meaning = meaning ≡ Ok v.items
Assembles (Err e) meaning = (meaning ≡ Err e) ⊎ (e ≡ out_of_memory)

-- the same with what the fault is about
abbrev pub IsExplained : {A : Type 0} → Result (Vec ℕ A) Explained → Result (List ℕ) AsmFault → Type 0
IsExplained (Ok v) meaning = meaning ≡ Ok v.items
IsExplained (Err e) meaning = (meaning ≡ Err e.fault) ⊎ (e.fault ≡ out_of_memory)
