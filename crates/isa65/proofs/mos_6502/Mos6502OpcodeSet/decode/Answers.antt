use Rattle.std.proofs.Common.{rules}
use Rattle.isa65.proofs.Opcodes.{decoded-other}
use Rattle.isa65.proofs.mos_6502.Mos6502OpcodeSet.decode.Goals as goal

pub returns-in_default : goal.returns-in_default
returns-in_default c = search (rules, decoded-other) depth 400
