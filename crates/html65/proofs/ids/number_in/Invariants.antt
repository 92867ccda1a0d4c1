use Rattle.std.proofs.Common.{◌≡◌, take, fold}
use Rattle.html65.specs.Links.{with_digit}
use Rattle.html65.proofs.ids.number_in.Given as goal

abbrev pub invariant-bytes : goal.invariant-bytes
invariant-bytes l = l.number ≡ fold (with_digit l.radix) 0 (take l.byte-index l.digits)
