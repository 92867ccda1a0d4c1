-- Each CPU's text names it. A look-up by name finds each CPU, and no other.
use Rattle.std.specs.Prelude.{◌≡◌, ◌↔◌, ◌≤◌, ℕ, List, length, Some, refl}
use Rattle.std.specs.Str.{str_eq_ignore_ascii_case, str_to_ascii_lowercase}
use Rattle.std.proofs.Common.{sym, arith}
use Rattle.std.proofs.lemmas.Slice.Eq.{bytes_eq-Decides}
use Rattle.isa65.specs.Words.{Cpu, IsNameOf, M6502, M65C02, M65SC02, cpu_named, cpu_text}
use Rattle.isa65.specs.declared.cpu.TheConstants.{ALL}
use Rattle.isa65.proofs.Finding.{find-passes}

-- the text of each CPU fits in quotes, and names it
pub cpu_name : (c : Cpu) → IsNameOf c (cpu_text c)
unfolding cpu_named
cpu_name M6502 = record { short = omega arith; quotable = refl; named = refl }
cpu_name M65SC02 = record { short = omega arith; quotable = refl; named = refl }
cpu_name M65C02 = record { short = omega arith; quotable = refl; named = refl }

pub cpu_len : (c : Cpu) → length (cpu_text c) ≤ 8
cpu_len c = (cpu_name c).short

-- bytes name c exactly when they are its text, but for case
pub cpu_named-is : (bytes : List ℕ) (c : Cpu) → (cpu_named bytes ≡ Some c) ↔ (str_to_ascii_lowercase bytes ≡ str_to_ascii_lowercase (cpu_text c))
unfolding cpu_named
cpu_named-is bytes c = (
  λ h. sym ((bytes_eq-Decides _ _).0 (find-passes (λ d. str_eq_ignore_ascii_case (cpu_text d) bytes) ALL c h)),
  λ e. rw e (cpu_name c).named,
)
