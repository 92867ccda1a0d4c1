use Rattle.std.proofs.Common.{◌≡◌, ◌≤◌, ◌+◌, length}
use Rattle.text65.specs.Lines.{text_lines}
use Rattle.info65.specs.Words.{names_with}
use Rattle.info65.proofs.includes.included.with_file.Given as goal

abbrev pub invariant-lines : goal.invariant-lines
invariant-lines g l = record {
  read : names_with l.include 1 l.fn.index (text_lines l.bytes) ≡ names_with l.include l.number l.names (text_lines l.rest);
  shorter : l.number + length l.rest ≤ length l.bytes + 1;
}

abbrev pub decreases-lines : goal.decreases-lines
decreases-lines g l = length l.rest
