use Rattle.std.proofs.Common.{◌≡◌, ℕ, ◌<◌, None, length, slice_index_or}
use Rattle.isa65.specs.Words.{decoded, table_of}
use Rattle.isa65.proofs.decode_table.DecodeTable.new.Given as goal

abbrev pub invariant-bytes : goal.invariant-bytes
invariant-bytes l = record {
  size : length l.ops ≡ 256;
  each : (b : ℕ) → b < l.byte → slice_index_or l.ops b None ≡ decoded (table_of l.cpu) b;
}
