use Rattle.std.proofs.Common.{sym}
use Rattle.text65.proofs.NameLemmas.{long_word}
use Rattle.text65.proofs.names.is_reserved_word.Goals as goal

pub returns-then-text-gt-LONGEST_WORD : goal.returns-then-text-gt-LONGEST_WORD
returns-then-text-gt-LONGEST_WORD c = sym (long_word c.args.text.now c.if-text-gt-LONGEST_WORD.true)
