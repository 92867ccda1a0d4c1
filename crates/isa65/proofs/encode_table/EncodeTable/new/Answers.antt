use Rattle.std.proofs.Common.{◌≡◌, sym, arith}
use Rattle.isa65.specs.Words.{table_of, table_of-sound}
use Rattle.isa65.proofs.FilledLemmas.{filled-none, filled-next, filled-all}
use Rattle.isa65.proofs.encode_table.EncodeTable.new.Goals as goal

pub bytes-init : goal.bytes-init
bytes-init c = filled-none (table_of c.args.cpu)

pub bytes-preserved : goal.bytes-preserved
bytes-preserved c =
    rw c.put.ensures (filled-next (table_of c.args.cpu) (table_of-sound c.args.cpu) c.bytes.byte c.bytes.codes c.decode.result (sym c.decode.ensures) c.bytes.invariant)

pub invariant_of-result : goal.invariant_of-result
invariant_of-result c =
    let full : c.bytes.byte ≡ 256 = omega (arith, c.bytes-test.false, c.bytes.auto.byte-end) in
    filled-all (table_of c.args.cpu) (table_of-sound c.args.cpu) c.bytes.codes (rw full at c.bytes.invariant)
