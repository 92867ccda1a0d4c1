use Rattle.std.proofs.Common.{◌≡◌, ◌+◌, ◌≤◌, length}
use Rattle.info65.specs.Words.{tokens_of}
use Rattle.info65.proofs.syntax.lexer.after_blanks.Given as goal

abbrev pub invariant-bytes : goal.invariant-bytes
invariant-bytes l = record {
  tokens : tokens_of l.line l.rest ≡ tokens_of l.first_line l.bytes;
  room : l.line + length l.rest ≤ l.first_line + length l.bytes;
}

abbrev pub decreases-bytes : goal.decreases-bytes
decreases-bytes l = length l.rest
