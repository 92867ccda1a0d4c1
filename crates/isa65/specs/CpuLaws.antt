-- Each CPU's table is sound.
use Rattle.std.specs.Prelude.{refl}
use Rattle.isa65.specs.Types.{Cpu, M6502, M65C02, M65SC02}
use Rattle.isa65.specs.Cpu.{table_of}
use Rattle.isa65.specs.Mos6502.{mos_6502}
use Rattle.isa65.specs.Cmos65Sc02.{cmos_65sc02}
use Rattle.isa65.specs.Rockwell65C02.{rockwell_65c02}
use Rattle.isa65.specs.OpcodeLaws.{IsSound}

pub mos_6502-sound : IsSound mos_6502
mos_6502-sound = record { by_opcode = refl; by_pair = refl; bytes = refl; sizes = refl }

pub cmos_65sc02-sound : IsSound cmos_65sc02
cmos_65sc02-sound = record { by_opcode = refl; by_pair = refl; bytes = refl; sizes = refl }

pub rockwell_65c02-sound : IsSound rockwell_65c02
rockwell_65c02-sound = record { by_opcode = refl; by_pair = refl; bytes = refl; sizes = refl }

pub table_of-sound : (c : Cpu) → IsSound (table_of c)
table_of-sound M6502 = mos_6502-sound
table_of-sound M65SC02 = cmos_65sc02-sound
table_of-sound M65C02 = rockwell_65c02-sound
