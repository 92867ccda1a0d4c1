use Rattle.std.proofs.Common.{arith}
use Rattle.da65.proofs.Outcomes.RunLaws.{listing_took}
use Rattle.da65.proofs.runs.running.write_listing.Goals as goal

pub returns-in-Ok-clause-reassembles : goal.returns-in-Ok-clause-reassembles
returns-in-Ok-clause-reassembles g c = grind (arith, listing_took)
