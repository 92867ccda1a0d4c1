use Rattle.std.proofs.Common.{length}
use Rattle.stmt65.proofs.printing.tables.+put_reversed.Given as goal

abbrev pub decreases-put_reversed : goal.decreases-put_reversed
decreases-put_reversed l = length l.bytes.now
