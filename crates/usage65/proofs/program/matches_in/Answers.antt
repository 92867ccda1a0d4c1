use Rattle.std.proofs.lemmas.Result.{IfOk-weaker}
use Rattle.usage65.proofs.program.matches_in.Goals as goal

pub returns : goal.returns
returns c = record {
  matches = IfOk-weaker c.try_get_matches_from.result _ _ (λ m h. (h c.requires.simple).0) c.try_get_matches_from.ensures.matches;
  faults = c.try_get_matches_from.ensures.kinds c.requires.free;
}
