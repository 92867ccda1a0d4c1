use Rattle.stmt65.proofs.CodingLemmas.{text_put}
use Rattle.stmt65.proofs.assembling.emit.put_datum.Goals as goal

pub returns-in_ok-extend_from_slice-in-String : goal.returns-in_ok-extend_from_slice-in-String
returns-in_ok-extend_from_slice-in-String g c = rw c.in-String.is (text_put c.args.names.now c.args.next c.in-String.bytes.now c.args.out.now.items _ c.in_ok-extend_from_slice-in-String.ensures.items)
