use Rattle.isa65.specs.Words.{table_of}
use Rattle.isa65.proofs.FilledLemmas.{IsFilled}
use Rattle.isa65.proofs.encode_table.EncodeTable.new.Given as goal

abbrev pub invariant-bytes : goal.invariant-bytes
invariant-bytes l = IsFilled (table_of l.cpu) l.byte l.codes
