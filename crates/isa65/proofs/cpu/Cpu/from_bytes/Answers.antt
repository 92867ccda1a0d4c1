use Rattle.std.proofs.Common.{rules}
use Rattle.isa65.specs.Words.{cpu_named}
use Rattle.isa65.proofs.CpuNames.{cpu_name, cpu_named-is}
use Rattle.isa65.proofs.cpu.Cpu.from_bytes.Goals as goal

pub returns-clause-value : goal.returns-clause-value
unfolding cpu_named
returns-clause-value c = search rules

pub returns-clause-named : goal.returns-clause-named
returns-clause-named c d = rw (returns-clause-value c) (cpu_named-is c.args.bytes.now d)

pub returns-clause-names : goal.returns-clause-names
returns-clause-names c = cpu_name
