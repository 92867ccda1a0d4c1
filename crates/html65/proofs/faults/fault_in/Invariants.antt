use Rattle.std.proofs.Common.{◌≡◌, ◌++◌, length}
use Rattle.html65.specs.Links.{ids_in, targets_in, texts}
use Rattle.html65.specs.PageText.{text_from, text_of}
use Rattle.html65.specs.Pieces.{pieces}
use Rattle.html65.proofs.faults.fault_in.Given as goal

abbrev pub invariant-pieces : goal.invariant-pieces
invariant-pieces l = record {
  text : text_from l.place (pieces l.rest) ≡ l.left → text_of l.page ≡ l.listing;
  ids : texts l.found.ids.items ++ ids_in (pieces l.rest) ≡ ids_in (pieces l.page);
  targets : texts l.found.targets.items ++ targets_in (pieces l.rest) ≡ targets_in (pieces l.page);
}

abbrev pub decreases-pieces : goal.decreases-pieces
decreases-pieces l = length l.rest
