use Rattle.std.proofs.Common.{◌≡◌, take}
use Rattle.info65.specs.Words.{segments_seen}
use Rattle.trace65.proofs.check.are_same_segments.Given as goal

abbrev pub invariant-segments : goal.invariant-segments
invariant-segments l = segments_seen (take l.index l.a) ≡ segments_seen (take l.index l.b)
