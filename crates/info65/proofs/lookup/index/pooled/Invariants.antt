use Rattle.std.proofs.Common.{◌≡◌, ◌*◌, ◌+◌, map}
use Rattle.info65.specs.Words.{given_seen, named_at, names_from}
use Rattle.info65.proofs.lookup.index.pooled.Given as goal

abbrev pub invariant-loop-page : goal.invariant-loop-page
invariant-loop-page g l = l.pool ≡ names_from (named_at (map given_seen l.names)) 0 (l.page * 256)

abbrev pub invariant-loop-number : goal.invariant-loop-number
invariant-loop-number g l = l.pool ≡ names_from (named_at (map given_seen l.names)) 0 (l.page * 256 + l.number-index)
