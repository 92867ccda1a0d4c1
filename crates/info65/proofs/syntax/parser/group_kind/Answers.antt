use Rattle.std.proofs.Common.{refl}
use Rattle.info65.proofs.ReaderLemmas.{group_refused}
use Rattle.info65.proofs.syntax.parser.group_kind.Goals as goal

pub returns-in_default : goal.returns-in_default
returns-in_default c = λ before o rest. rw c.expected.ensures (group_refused o before _ _ rest refl c.in_default.not-Word)
