use Rattle.std.proofs.Common.{◌≡◌, take}
use Rattle.stmt65.specs.Code.SymbolViews.{hash_of}
use Rattle.stmt65.proofs.assembling.symbols.hash_of.Given as goal

abbrev pub invariant-bytes : goal.invariant-bytes
invariant-bytes l = l.hash ≡ hash_of (take l.byte-index l.name)
