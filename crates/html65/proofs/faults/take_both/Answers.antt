use Rattle.std.proofs.Common.{refl, rules}
use Rattle.std.proofs.lemmas.List.{append-nil}
use Rattle.html65.proofs.LinkLemmas.{no_id, no_target}
use Rattle.html65.proofs.faults.take_both.Goals as goal

pub returns-then-tag-lt5-clause-ids : goal.returns-then-tag-lt5-clause-ids
returns-then-tag-lt5-clause-ids c = rw (c.in-Tag.is, no_id c.in-Tag.tag.now (search rules), append-nil) refl

pub returns-then-tag-lt5-clause-targets : goal.returns-then-tag-lt5-clause-targets
returns-then-tag-lt5-clause-targets c = rw (c.in-Tag.is, no_target c.in-Tag.tag.now (search rules), append-nil) refl
