use Rattle.std.proofs.Common.{◌-◌, ◌≡◌}
use Rattle.std.specs.List.{list_any}
use Rattle.map65.specs.Words.{addresses, is_skip, role_of}
use Rattle.da65.specs.Words.{skips}
use Rattle.da65.proofs.listing.grouping.is_any_skipped.Given as goal

abbrev pub invariant-loop-address : goal.invariant-loop-address
invariant-loop-address g l = list_any (λ a. is_skip (role_of l.map.info a)) (addresses (l.end - l.address) l.address) ≡ skips l.map
