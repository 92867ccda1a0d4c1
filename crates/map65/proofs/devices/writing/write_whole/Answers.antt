use Rattle.std.proofs.Common.{rules}
use Rattle.map65.proofs.WriteLemmas.{taken_more}
use Rattle.map65.proofs.devices.writing.write_whole.Goals as goal

pub writes-preserved : goal.writes-preserved
writes-preserved g c = record {
  taken = taken_more c.in_ok-n.n c.writes.invariant.taken c.in_ok-n.ensures.bytes;
  faults = search rules;
}
