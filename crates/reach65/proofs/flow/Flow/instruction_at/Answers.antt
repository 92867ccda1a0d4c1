use Rattle.std.proofs.Common.{◌∙◌, sym}
use Rattle.map65.proofs.Public.{has-role}
use Rattle.reach65.proofs.flow.Flow.instruction_at.Goals as goal

pub bytes_from-bytes-requires-clause-low : goal.bytes_from-bytes-requires-clause-low
bytes_from-bytes-requires-clause-low c = rw c.image.ensures.image (has-role c.self.inside.map.now c.args.address c.in-Some-Code.field-0 (sym c.role.ensures ∙ c.in-Some-Code.is)).low

pub bytes_from-bytes-requires-clause-high : goal.bytes_from-bytes-requires-clause-high
bytes_from-bytes-requires-clause-high c = rw c.image.ensures.image (has-role c.self.inside.map.now c.args.address c.in-Some-Code.field-0 (sym c.role.ensures ∙ c.in-Some-Code.is)).high
