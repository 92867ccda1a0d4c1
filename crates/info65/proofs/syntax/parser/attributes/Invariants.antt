use Rattle.std.proofs.Common.{◌≡◌, ◌≤◌, [], length, map}
use Rattle.info65.specs.Words.{assignment_seen, inside, read}
use Rattle.info65.proofs.syntax.parser.attributes.Given as goal

abbrev pub invariant-attributes : goal.invariant-attributes
invariant-attributes g l = record {
  same : read l.fn.options (inside l.fn.kind (map assignment_seen l.given.items)) l.groups l.lexer ≡ read l.fn.options (inside l.fn.kind []) l.fn.groups l.fn.lexer;
  shorter : length l.lexer.tokens ≤ length l.fn.lexer.tokens;
}

abbrev pub decreases-attributes : goal.decreases-attributes
decreases-attributes g l = length l.lexer.tokens
