-- What a call returns beside what the rules give: any call that allocates may be out of memory.
use Rattle.std.specs.Prelude.{◌≡◌, ◌⊎◌, ◌++◌, List, Option, Result, Ok, Err, OnOk, option_map}
use Rattle.std.specs.declared.vec.Vec.{Vec}
use Rattle.info65.specs.Code.Names.{given_seen}
use Rattle.info65.specs.Faults.{out_of_memory}
use Rattle.info65.specs.Views.{NameView}
use Rattle.info65.specs.Types.{Given, InfoFault}

-- a refusal is that of the definition, unless an allocation failed
abbrev pub Fails : {A : Type 0} → InfoFault → Result A InfoFault → Type 0
Fails e defined = (defined ≡ Err e) ⊎ (e ≡ out_of_memory)

-- what a call returns, seen by `seen`, is what the definition gives, unless an allocation failed
abbrev pub Gives : {X A : Type 0} → (X → A) → Result X InfoFault → Result A InfoFault → Type 0
Gives seen (Ok x) defined = defined ≡ Ok (seen x)
Gives seen (Err e) defined = Fails e defined

-- the same for a call that takes no memory, whatever its faults are
abbrev pub Sees : {X A E : Type 0} → (X → A) → Result X E → Result A E → Type 0
Sees seen (Ok x) defined = defined ≡ Ok (seen x)
Sees seen (Err e) defined = defined ≡ Err e

-- the same, if it may return a name
abbrev pub MayName : {E : Type 0} → Result (Option Given) E → Result (Option NameView) E → Type 0
MayName result defined = Sees (option_map given_seen) result defined

-- a call that succeeds adds these items
abbrev pub Adds : {R E X A : Type 0} → Result R E → Vec X A → Vec X A → List X → Type 0
Adds result old new xs = OnOk result (new.items ≡ old.items ++ xs)
