-- Ranges of the opcodes that hide an instruction in their operand.
use Rattle.std.specs.Prelude.{◌≡◌, ◌+◌, ◌&&◌, ℕ, nat_lt, Bool, true, false, List, All, Option, Some, None}
use Rattle.info65.specs.declared.information.range.RangeSpec.{RangeSpec}
use Rattle.info65.specs.declared.information.range.RangeType.TheVariants.{ByteTable}
use Rattle.isa65.specs.Words.{len_of}
use Rattle.isa65.specs.declared.op.Op.{Op}
use Rattle.map65.specs.Words.{MapView, MarksView, is_marked}
use Rattle.reach65.specs.Words.{instruction_at}

abbrev pub has_operand : Option Op → Bool
has_operand None = false
has_operand (Some op) = nat_lt 1 (len_of op.mode)

abbrev pub is_instruction : Option Op → Bool
is_instruction None = false
is_instruction (Some op) = true

-- an instruction is reached that begins at the address
abbrev pub begins : MapView → MarksView → ℕ → Bool
begins m reached a = is_marked reached a && is_instruction (instruction_at m a)

-- a reached instruction with an operand begins at the address, and another one at its operand
unfoldable pub is_skip : MapView → MarksView → ℕ → Bool
is_skip m reached a = is_marked reached a && (has_operand (instruction_at m a) && begins m reached (a + 1))

-- the byte of the address, as a table of bytes
abbrev pub skip_range : ℕ → RangeSpec
skip_range a = record { first = a; last = a; role = ByteTable }

-- the range is the byte of such an address
pub record IsSkip (m : MapView) (reached : MarksView) (r : RangeSpec) : Type 0 where
  pub skip : is_skip m reached r.first ≡ true
  pub same : r ≡ skip_range r.first

abbrev pub AreSkips : MapView → MarksView → List RangeSpec → Type 0
AreSkips m reached ranges = All (IsSkip m reached) ranges
