-- What a `Told` holds.
use Rattle.std.specs.Prelude.{ℕ, Bool, false}
use Rattle.map65.specs.Types.{Told}

-- how many of its calls failed
abbrev pub told_faults : {T : Type 0} → Told T → ℕ
told_faults t = t.faults

-- whether the last read failed
abbrev pub told_failed : {T : Type 0} → Told T → Bool
told_failed t = t.failed

-- one that begins over a reader or a writer: no call has failed
abbrev pub told_of : {T : Type 0} → T → Told T
told_of inner = record { inner = inner; faults = 0; failed = false }
