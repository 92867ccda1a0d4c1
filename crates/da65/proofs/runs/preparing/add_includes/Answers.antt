use Rattle.std.proofs.Common.{arith}
use Rattle.std.proofs.lemmas.Bool.{eqb-true}
use Rattle.da65.proofs.Outcomes.IncludeLemmas.{all_of_none, seen_alike}
use Rattle.da65.proofs.runs.preparing.add_includes.Goals as goal

pub returns-then-is_empty : goal.returns-then-is_empty
returns-then-is_empty g c = grind (arith, eqb-true, all_of_none, seen_alike)
