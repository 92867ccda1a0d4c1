-- What contracts know of what is read and written. Standard streams and files do not report their bytes.
use Rattle.std.specs.Prelude.{ℕ, Bool, false, List, [], Option, Some, None}
use Rattle.map65.specs.Words.{told_failed, told_faults}
use Rattle.files65.specs.declared.input.Input.{Input}
use Rattle.files65.specs.declared.input.Input.TheVariants.{Standard, File, Nothing}
use Rattle.files65.specs.declared.output.Output.{Output}
use Rattle.files65.specs.declared.output.Output.TheVariants as written

-- the bytes that are left
abbrev pub input_left : Input → Option (List ℕ)
input_left (Standard told) = None
input_left (File told) = None
input_left Nothing = Some []

-- how many reads have failed
abbrev pub input_faults : Input → ℕ
input_faults (Standard told) = told_faults told
input_faults (File told) = told_faults told
input_faults Nothing = 0

-- whether the last read failed
abbrev pub input_failed : Input → Bool
input_failed (Standard told) = told_failed told
input_failed (File told) = told_failed told
input_failed Nothing = false

-- the bytes that were written
abbrev pub output_taken : Output → Option (List ℕ)
output_taken _ = None

-- how many writes have failed
abbrev pub output_faults : Output → ℕ
output_faults (written.Standard told) = told_faults told
output_faults (written.File told) = told_faults told
