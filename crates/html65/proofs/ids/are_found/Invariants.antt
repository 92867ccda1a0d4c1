use Rattle.std.proofs.Common.{◌≡◌, take, true}
use Rattle.std.specs.List.{list_all}
use Rattle.html65.specs.Links.{is_found, texts}
use Rattle.html65.proofs.ids.are_found.Given as goal

abbrev pub invariant-targets : goal.invariant-targets
invariant-targets l = list_all (is_found (texts l.ids)) (texts (take l.target-index l.targets)) ≡ true
