use Rattle.std.proofs.Common.{◌≡◌, map, take}
use Rattle.std.specs.String.{string_bytes}
use Rattle.da65.proofs.runs.files.names_of.Given as goal

abbrev pub invariant-loop-include : goal.invariant-loop-include
invariant-loop-include g l = map string_bytes l.names.items ≡ map (λ x. x.file) (take l.include-index l.includes)
