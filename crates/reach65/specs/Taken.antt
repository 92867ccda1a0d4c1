-- Which addresses are taken: those of a range of the information file, and the bytes of reached instructions.
use Rattle.std.specs.Prelude.{◌≡◌, ℕ, ◌+◌, ◌&&◌, ◌||◌, nat_le, nat_lt, Bool, false, List, length, Option, Some, None}
use Rattle.std.specs.List.{list_any}
use Rattle.isa65.specs.Words.{len_of}
use Rattle.info65.specs.Words.{has_address}
use Rattle.map65.specs.Words.{MapView, MarksView, addresses, is_marked}
use Rattle.reach65.specs.Types.{Op, RangeSpec}
use Rattle.reach65.specs.Flow.{instruction_at}

abbrev pub is_within : ℕ → Option Op → ℕ → Bool
is_within b None a = false
is_within b (Some op) a = nat_le b a && nat_lt a (b + len_of op.mode)

-- the instruction that begins at the first address has the second one
unfoldable pub has_byte : MapView → ℕ → ℕ → Bool
has_byte m b a = is_within b (instruction_at m b) a

-- the first address is reached, and its instruction has the second one
abbrev pub is_code_of : MapView → (ℕ → Bool) → ℕ → ℕ → Bool
is_code_of m reached b a = reached b && has_byte m b a

-- a reached instruction of the image has the address
unfoldable pub is_code : MapView → (ℕ → Bool) → ℕ → Bool
is_code m reached a = list_any (λ b. is_code_of m reached b a) (addresses (length m.image.bytes) m.image.start)

-- a range has the address
unfoldable pub is_given : List RangeSpec → ℕ → Bool
is_given ranges a = list_any (λ r. has_address r a) ranges

-- code, or an address of a range of the information file
unfoldable pub is_taken : MapView → (ℕ → Bool) → ℕ → Bool
is_taken m code a = code a || is_given m.info.ranges a

-- ---- marks

-- exactly the addresses that pass the test are marked
abbrev pub AreMarkedBy : (ℕ → Bool) → MarksView → Type 0
AreMarkedBy p marks = (a : ℕ) → is_marked marks a ≡ p a

-- those that were marked, and those that pass the test
abbrev pub Adds : (ℕ → Bool) → MarksView → MarksView → Type 0
Adds p old new = (a : ℕ) → is_marked new a ≡ (is_marked old a || p a)
