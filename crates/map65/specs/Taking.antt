-- How far a source is read, and which of its reads failed.
use Rattle.std.specs.Prelude.{◌≡◌, ℕ, Bool, true, List, drop, IfSome, Option, Some, Result, Ok, Err, ⊤}
use Rattle.map65.specs.Types.{TakeFault}
use Rattle.map65.specs.declared.devices.taking.TakeFault.TheVariants.{Read, Memory}
use Rattle.map65.specs.Device.{one_more}

-- Reading went on to the limit, or to the end if the input is shorter. For a reader that reports its bytes.
abbrev pub IsReadTo : ℕ → Option (List ℕ) → Option (List ℕ) → Type 0
IsReadTo limit old new = IfSome old (λ xs. new ≡ Some (drop limit xs))

-- the count of failed reads rises by one exactly when the result is Read
abbrev pub TakeCount : {T : Type 0} → Result T TakeFault → ℕ → ℕ → Type 0
TakeCount (Err Read) old new = new ≡ one_more old
TakeCount _ old new = new ≡ old

-- A read that failed was the last one. No more than one fails, by the count.
abbrev pub TakesNoMore : {T : Type 0} → Result T TakeFault → Bool → Type 0
TakesNoMore (Ok v) failed = ⊤
TakesNoMore (Err Read) failed = failed ≡ true
TakesNoMore (Err Memory) failed = ⊤
