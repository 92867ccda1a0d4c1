use Rattle.std.proofs.Common.{rules, None, arith}
use Rattle.std.proofs.lemmas.List.Edits.{fill_by_more}
use Rattle.isa65.specs.Words.{decoded, table_of}
use Rattle.isa65.proofs.decode_table.DecodeTable.new.Goals as goal

pub bytes-preserved : goal.bytes-preserved
bytes-preserved c = record {
  size = search rules;
  each = rw c.decode.ensures (fill_by_more (decoded (table_of c.args.cpu)) c.bytes.ops c.bytes.byte None (omega (arith, c.bytes-test.true, c.bytes.invariant.size)) c.bytes.invariant.each);
}
