use Rattle.std.proofs.Common.{◌≡◌, length}
use Rattle.info65.specs.Words.{groups_of, place_after, read}
use Rattle.info65.proofs.syntax.parser.read_groups.Given as goal

abbrev pub invariant-groups : goal.invariant-groups
invariant-groups g l = read l.fn.options (place_after l.after_group) l.groups l.lexer ≡ groups_of l.fn.options l.fn.bytes

abbrev pub decreases-groups : goal.decreases-groups
decreases-groups g l = length l.lexer.tokens
