use Rattle.std.proofs.Common.{arith}
use Rattle.trace65.proofs.TailLemmas.{says_with_comment}
use Rattle.trace65.proofs.report.add_unshown.Goals as goal

pub returns-clause-accepted : goal.returns-clause-accepted
returns-clause-accepted c o i before =
    says_with_comment c.accepts_files.ensures o c.in-Some-eq10-default.field-0-1.now c.args.text.now.items c.put_unshown.new.out.items _ i
    (grind arith) c.in_ok-put_unshown.ensures (grind arith) before
