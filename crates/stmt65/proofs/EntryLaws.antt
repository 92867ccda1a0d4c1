-- What holds of the entries of tables.
use Rattle.std.specs.Prelude.{◌*◌, ◌+◌, ◌/◌, ◌<◌, ◌∷◌, ◌≡◌, ◌≤◌}
use Rattle.stmt65.proofs.Lemmas.{List, [], arith, drop, length, length-drop, length-reverse, refl, take, ℕ}
use Rattle.std.specs.List.{All}
use Rattle.stmt65.specs.Words.{Addr, BigEndian, ByteOrder, Dbyt, Directive, Dword, LittleEndian, entries, entry_bytes, entry_len, entry_limit, entry_number, in_order, low, low_number, pieces}
use Rattle.stmt65.specs.declared.directive.Directive.TheVariants.{Word}

-- ---- the order of bytes

pub in_order-length : (o : ByteOrder) (bytes : List ℕ) → length (in_order o bytes) ≡ length bytes
in_order-length LittleEndian bytes = refl
in_order-length BigEndian bytes = length-reverse bytes

-- ---- the number that is printed of an entry codes its bytes

-- a directive codes as many bytes of every number as an entry has
pub entry_bytes-length : (d : Directive) (n : ℕ) → length (entry_bytes d n) ≡ length (entry_bytes d 0)
entry_bytes-length Dword n = refl
entry_bytes-length _ n = refl

pub entry_size : (d : Directive) → length (entry_bytes d 0) ≡ entry_len d
entry_size Dword = refl
entry_size _ = refl

-- the bytes of a number, the low one first
record IsPair (n a b : ℕ) : Type 0 where
  first : low n ≡ a
  second : low (n / 0x100) ≡ b
  room : n < 0x10000

record IsQuad (n a b c e : ℕ) : Type 0 where
  first : low n ≡ a
  second : low (n / 0x100) ≡ b
  third : low (n / 0x10000) ≡ c
  fourth : low (n / 0x1000000) ≡ e
  room : n < 0x100000000

pair_of : (a b : ℕ) → a < 256 → b < 256 → IsPair (a + 256 * (b + 256 * 0)) a b
pair_of a b h g = record { first = omega arith; second = omega arith; room = omega arith }

quad_of : (a b c e : ℕ) → a < 256 → b < 256 → c < 256 → e < 256 → IsQuad (a + 256 * (b + 256 * (c + 256 * (e + 256 * 0)))) a b c e
quad_of a b c e h g i j = record { first = omega arith; second = omega arith; third = omega arith; fourth = omega arith; room = omega arith }

-- the number of the entry has room, and its bytes are those of the entry
record CodesBack (d : Directive) (entry : List ℕ) : Type 0 where
  back : entry_bytes d (entry_number d entry) ≡ entry
  fits : entry_number d entry < entry_limit d

abbrev AreBytes : List ℕ → Type 0
AreBytes bytes = All (λ b. b < 256) bytes

codes_back : (d : Directive) (entry : List ℕ) → length entry ≡ entry_len d → AreBytes entry → CodesBack d entry
unfolding low_number
codes_back Word (a ∷ b ∷ []) long are = let is = pair_of a b (are 0 0 (omega arith)) (are 1 0 (omega arith)) in record { back = rw (is.first, is.second) refl; fits = is.room }
codes_back Dbyt (a ∷ b ∷ []) long are = let is = pair_of b a (are 1 0 (omega arith)) (are 0 0 (omega arith)) in record { back = rw (is.first, is.second) refl; fits = is.room }
codes_back Addr (a ∷ b ∷ []) long are = let is = pair_of a b (are 0 0 (omega arith)) (are 1 0 (omega arith)) in record { back = rw (is.first, is.second) refl; fits = is.room }
codes_back Dword (a ∷ b ∷ c ∷ e ∷ []) long are =
    let is = quad_of a b c e (are 0 0 (omega arith)) (are 1 0 (omega arith)) (are 2 0 (omega arith)) (are 3 0 (omega arith)) in
    record { back = rw (is.first, is.second, is.third, is.fourth) refl; fits = is.room }
codes_back _ _ long are = absurd (omega (arith, long))

-- the bytes of the number of an entry are those of the entry
pub bytes_back : (d : Directive) (entry : List ℕ) → length entry ≡ entry_len d → All (λ b. b < 256) entry → entry_bytes d (entry_number d entry) ≡ entry
bytes_back d entry long are = (codes_back d entry long are).back

-- there is room for the number of an entry
pub number_fits : (d : Directive) (entry : List ℕ) → length entry ≡ entry_len d → All (λ b. b < 256) entry → entry_number d entry < entry_limit d
number_fits d entry long are = (codes_back d entry long are).fits

-- ---- the entries of a table

-- a table that is too short for an entry
pub entries_none : (d : Directive) (bytes : List ℕ) → length bytes < entry_len d → entries d bytes ≡ []
unfolding entries pieces
entries_none d bytes lt = grind (arith)

-- the first entry, and the others
pub entries_more : (d : Directive) (bytes : List ℕ) → entry_len d ≤ length bytes → entries d bytes ≡ take (entry_len d) bytes ∷ entries d (drop (entry_len d) bytes)
unfolding entries pieces
entries_more d bytes le = grind (arith, length-drop)
