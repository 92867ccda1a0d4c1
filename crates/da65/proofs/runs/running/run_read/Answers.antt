use Rattle.std.proofs.Common.{◌≡◌, ℕ, List, refl}
use Rattle.std.specs.Prelude.{Result, Err}
use Rattle.info65.specs.Words.{InfoView}
use Rattle.da65.specs.Words.{files_seen, prepared_by}
use Rattle.da65.proofs.Outcomes.RefusalLemmas.{refused_writes}
use Rattle.da65.proofs.runs.running.run_read.Goals as goal

pub returns-in-Ok-clause-answer : goal.returns-in-Ok-clause-answer
returns-in-Ok-clause-answer g c defined gives = rw (c.in-Ok.ensures defined gives) c.list_input.ensures.answer

pub returns-in-Ok-clause-reassembles : goal.returns-in-Ok-clause-reassembles
returns-in-Ok-clause-reassembles g c defined gives = rw (c.in-Ok.ensures defined gives) c.list_input.ensures.reassembles

pub returns-in-Ok-clause-reads : goal.returns-in-Ok-clause-reads
returns-in-Ok-clause-reads g c defined gives = rw (c.in-Ok.ensures defined gives) c.list_input.ensures.reads

pub returns-in-Ok-clause-unread : goal.returns-in-Ok-clause-unread
returns-in-Ok-clause-unread g c defined gives = rw (c.in-Ok.ensures defined gives) tt

pub returns-in-Err-Refused-clause-answer : goal.returns-in-Err-Refused-clause-answer
returns-in-Err-Refused-clause-answer g c defined gives =
    let refused : ◌≡◌ {A = Result InfoView (List ℕ)} (prepared_by defined (files_seen c.args.files.now)) (Err c.in-Err-Refused.message.items) = rw (c.in-Err-Refused.is, c.in-Err-Refused.field-0-is) at (c.prepare.ensures defined gives) in
    rw refused (λ few. refused_writes _ _ _ _ _ _ (rw (c.as_slice.ensures.value, c.in-Err-Refused.field-0-is) at c.tell.ensures.text))

pub returns-in-Err-Refused-clause-reads : goal.returns-in-Err-Refused-clause-reads
returns-in-Err-Refused-clause-reads g c defined gives = rw (rw (c.in-Err-Refused.is, c.in-Err-Refused.field-0-is) at (c.prepare.ensures defined gives)) tt

pub returns-in-Err-Refused-clause-unread : goal.returns-in-Err-Refused-clause-unread
returns-in-Err-Refused-clause-unread g c defined gives = rw (rw (c.in-Err-Refused.is, c.in-Err-Refused.field-0-is) at (c.prepare.ensures defined gives)) refl
