use Rattle.std.proofs.Common.{codes, rules}
use Rattle.html65.specs.Links.{found_in}
use Rattle.html65.proofs.LinkLemmas.{passed_on, passed_whole, taken_more}
use Rattle.html65.proofs.faults.fault_in.Goals as goal

pub returns-then-holds-clause-text : goal.returns-then-holds-clause-text
returns-then-holds-clause-text c = λ _. passed_whole _ _ _ _ _ c.in_default.ensures (search rules) c.pieces.invariant.text

pub pieces-preserved : goal.pieces-preserved
pieces-preserved c =
    let step = c.in-Some.ensures.0 in
    let next = c.in-Some-passed.ensures in
    let took = c.in_ok-take_both.ensures in
    record {
      text = passed_on _ _ _ _ _ _ _ _ _ step next c.pieces.invariant.text;
      ids = taken_more (found_in (codes " id=\"")) _ _ _ _ _ _ step took.ids c.pieces.invariant.ids;
      targets = taken_more (found_in (codes " href=\"#")) _ _ _ _ _ _ step took.targets c.pieces.invariant.targets;
    }
