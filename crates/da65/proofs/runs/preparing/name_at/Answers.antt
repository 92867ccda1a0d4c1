use Rattle.std.proofs.Common.{arith}
use Rattle.da65.proofs.Outcomes.IncludeFacts.{short_name}
use Rattle.da65.proofs.runs.preparing.name_at.Goals as goal

pub returns-clause-short : goal.returns-clause-short
returns-clause-short g c = grind (arith, short_name)
