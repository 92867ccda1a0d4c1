use Rattle.std.proofs.Common.{Some, nat_lt, ap, ◌∙◌}
use Rattle.da65.specs.Words.{files_seen, outcome_by, prepared_by}
use Rattle.da65_cli.proofs.DeliveryLemmas.{delivers_told, fresh_taken, has_room}
use Rattle.da65_cli.proofs.ReassemblesLemmas.{reassembles_told}
use Rattle.da65_cli.proofs.listing.run_read_buffered.Goals as goal

pub flush_then_report-result-requires : goal.flush_then_report-result-requires
flush_then_report-result-requires g c =
    has_room c.run_read-was.result c.new-waiting.result.bytes c.run_read-was.new.msgs.bytes c.new-waiting.result.faults c.run_read-was.new.msgs.faults c.run_read-was.ensures.messages_count c.new-waiting.ensures.faults c.new-waiting.ensures.bytes c.run_read-was.ensures.few c.as_slice.ensures.full

pub returns-clause-answer : goal.returns-clause-answer
returns-clause-answer g c = λ defined gives fresh calm.
    let reported = rw c.as_slice.ensures.bytes at c.flush_then_report-result.ensures.text in
    rw c.into_out.ensures (delivers_told (g.R.Source.left c.args.input.now)
    (λ bytes. outcome_by (prepared_by defined (files_seen c.args.files.now)) bytes (nat_lt (g.R.Source.faults c.args.input.now) (g.R.Source.faults c.run_read-was.new.input)))
    _ _ _ _ _ _ _ _ _
    (fresh_taken _ _ (ap g.W.Sink.taken c.new-buffer.ensures.out ∙ fresh) c.new-buffer.ensures.bytes)
    (ap Some c.new-waiting.ensures.bytes) (c.run_read-was.ensures.answer defined gives calm) reported)

pub returns-clause-reassembles : goal.returns-clause-reassembles
returns-clause-reassembles g c = λ defined gives fresh calm.
    let reported = rw c.as_slice.ensures.bytes at c.flush_then_report-result.ensures.text in
    rw c.into_out.ensures (reassembles_told (g.R.Source.left c.args.input.now) (prepared_by defined (files_seen c.args.files.now))
    (nat_lt (g.R.Source.faults c.args.input.now) (g.R.Source.faults c.run_read-was.new.input))
    _ _ _ _ _ _ _ _
    (fresh_taken _ _ (ap g.W.Sink.taken c.new-buffer.ensures.out ∙ fresh) c.new-buffer.ensures.bytes)
    (c.run_read-was.ensures.reassembles defined gives calm) reported)
