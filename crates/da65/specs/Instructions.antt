-- The instruction that some bytes begin with.
--
-- The opcode is defined on the CPU, and the bytes have all of its operand.
use Rattle.std.specs.Prelude.{ℕ, nat_le, List, [], ◌∷◌, length, Option, Some, None, if◌then◌else◌}
use Rattle.isa65.specs.Words.{Table, decoded, len_of}
use Rattle.da65.specs.Types.{Op}

-- an instruction that has all of its bytes among so many
abbrev pub whole_in : ℕ → Option Op → Option Op
whole_in count None = None
whole_in count (Some op) = if nat_le (len_of op.mode) count then Some op else None

-- The instruction that some bytes begin with: none where the first is an undefined opcode,
-- or where an instruction of it is cut.
unfoldable pub instruction_in : Table → List ℕ → Option Op
instruction_in t [] = None
instruction_in t (b ∷ bytes) = whole_in (length (b ∷ bytes)) (decoded t b)
