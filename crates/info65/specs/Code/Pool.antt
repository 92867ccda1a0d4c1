-- Names as an `Info` keeps them: entries by address, whose texts stand in one pool of bytes.
use Rattle.std.specs.Prelude.{◌+◌, ◌-◌, ◌≤◌, ◌<◌, ◌&&◌, ℕ, Bool, List, [], Option, None, Some, IfSome, drop, get_or, length, nat_le, nat_lt, option_map, take}
use Rattle.std.specs.Int.Bits.{bit_and}
use Rattle.info65.specs.Views.{NameView}
use Rattle.info65.specs.declared.information.pool.Entry.{Entry}
use Rattle.info65.specs.Types.{Span}

-- the bytes of the pool that a span is for
abbrev pub bytes_of : List ℕ → Span → List ℕ
bytes_of pool s = take s.size (drop s.first pool)

abbrev pub entry_seen : List ℕ → Entry → NameView
entry_seen pool e = record { address = e.address; size = e.size; text = bytes_of pool e.text; comment = option_map (bytes_of pool) e.comment }

-- where bytes are that are appended to these
abbrev pub span_of : List ℕ → List ℕ → Span
span_of pool text = record { first = length pool; size = length text }

-- the bytes, or none
abbrev pub optional : Option (List ℕ) → List ℕ
optional None = []
optional (Some text) = text

abbrev pub blank_span : Span
blank_span = record { first = 0; size = 0 }

abbrev pub blank_entry : Entry
blank_entry = record { address = 0; size = 0; text = blank_span; comment = None; most = 0 }

-- the address after the last that the entry is for
abbrev pub reach_of : Entry → ℕ
reach_of e = e.address + e.size

abbrev pub IsWithin : List ℕ → Span → Type 0
IsWithin pool s = s.first + s.size ≤ length pool

-- the entries from this one on, up to the n-th, reach no further than so far
abbrev pub ReachTo : List Entry → ℕ → ℕ → ℕ → Type 0
ReachTo entries first n reach = (j : ℕ) → first ≤ j → j < n → reach_of (get_or entries j blank_entry) ≤ reach

-- where the block begins that ends before the n-th entry: n without its lowest bit
unfoldable pub block_start : ℕ → ℕ
block_start n = bit_and n (n - 1)

-- each entry says how far the block reaches that it ends
pub record AreBlocks (entries : List Entry) : Type 0 where
  pub each : (i : ℕ) → i < length entries → ReachTo entries (block_start (i + 1)) (i + 1) (get_or entries i blank_entry).most

-- each entry's bytes lie in the pool
pub record IsPool (pool : List ℕ) (entries : List Entry) : Type 0 where
  pub texts : (i : ℕ) → i < length entries → IsWithin pool (get_or entries i blank_entry).text
  pub comments : (i : ℕ) → i < length entries → IfSome (get_or entries i blank_entry).comment (IsWithin pool)
  pub blocks : AreBlocks entries

-- the entries from the n-th on have addresses above this one
pub record AreAbove (entries : List Entry) (n address : ℕ) : Type 0 where
  pub each : (i : ℕ) → n ≤ i → i < length entries → address < (get_or entries i blank_entry).address

-- the address is one of those that the entry is for
abbrev pub entry_covers : Entry → ℕ → Bool
entry_covers e a = nat_le e.address a && nat_lt a (reach_of e)
