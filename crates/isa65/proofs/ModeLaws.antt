-- How many bytes an instruction has: one to three.
use Rattle.std.proofs.Common.{◌≤◌, arith}
use Rattle.isa65.specs.Words.{Imp, Mode, len_of}

pub len-positive : (x : Mode) → 1 ≤ len_of x
len-positive Imp = omega arith
len-positive _ = omega arith

pub len-small : (x : Mode) → len_of x ≤ 3
len-small Imp = omega arith
len-small _ = omega arith
