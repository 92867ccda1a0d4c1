-- What a CPU is called, and which opcodes it has.
use Rattle.std.specs.Prelude.{◌≡◌, ℕ, ◌≤◌, Bool, true, ◌&&◌, not, nat_lt, ◌==◌, List, codes, length, Option, Some}
use Rattle.std.specs.List.{find, list_all}
use Rattle.std.specs.Str.{str_eq_ignore_ascii_case}
use Rattle.isa65.specs.Types.{Cpu, M6502, M65C02, M65SC02}
use Rattle.isa65.specs.declared.cpu.TheConstants.{ALL}
use Rattle.isa65.specs.Opcodes.{Table}
use Rattle.isa65.specs.Mos6502.{mos_6502}
use Rattle.isa65.specs.Cmos65Sc02.{cmos_65sc02}
use Rattle.isa65.specs.Rockwell65C02.{rockwell_65c02}

-- the name in the quotes of `.setcpu`
abbrev pub cpu_text : Cpu → List ℕ
cpu_text M6502 = codes "6502"
cpu_text M65SC02 = codes "65SC02"
cpu_text M65C02 = codes "65C02"

abbrev pub table_of : Cpu → Table
table_of M6502 = mos_6502
table_of M65SC02 = cmos_65sc02
table_of M65C02 = rockwell_65c02

-- the first of these CPUs that the bytes name, in any letter case
abbrev pub first_cpu_named : List ℕ → List Cpu → Option Cpu
first_cpu_named bytes cpus = find (λ c. str_eq_ignore_ascii_case (cpu_text c) bytes) cpus

-- the CPU that the bytes name, in any letter case
unfoldable pub cpu_named : List ℕ → Option Cpu
cpu_named bytes = first_cpu_named bytes ALL

-- $20 to $7E without `"`: what can stand between two quotes
abbrev pub is_quotable : ℕ → Bool
is_quotable b = nat_lt 0x1F b && nat_lt b 0x7F && not (b == 0x22)

-- a text that `.setcpu` takes in quotes: at most eight bytes, each of them quotable, that name this CPU
pub record IsNameOf (cpu : Cpu) (text : List ℕ) : Type 0 where
  pub short : length text ≤ 8
  pub quotable : list_all is_quotable text ≡ true
  pub named : cpu_named text ≡ Some cpu
