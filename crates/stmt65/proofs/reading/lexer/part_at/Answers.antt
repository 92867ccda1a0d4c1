use Rattle.std.proofs.Common.{rules}
use Rattle.stmt65.proofs.PartLemmas.{decimal_part, hex_part, word_part}
use Rattle.stmt65.proofs.reading.lexer.part_at.Goals as goal

pub returns-then-is_word_start-clause-part : goal.returns-then-is_word_start-clause-part
returns-then-is_word_start-clause-part c = search (rules, word_part)

pub returns-then-is_ascii_digit-clause-part : goal.returns-then-is_ascii_digit-clause-part
returns-then-is_ascii_digit-clause-part c = search (rules, decimal_part)

pub returns-then-len-gt0-clause-part : goal.returns-then-len-gt0-clause-part
returns-then-len-gt0-clause-part c = search (rules, hex_part)
