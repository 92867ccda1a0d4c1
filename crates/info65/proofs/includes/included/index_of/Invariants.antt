use Rattle.std.proofs.Common.{◌≡◌, take}
use Rattle.info65.proofs.includes.included.index_of.Given as goal

abbrev pub invariant-loop-place : goal.invariant-loop-place
invariant-loop-place g l = l.index ≡ take l.place l.info.names
