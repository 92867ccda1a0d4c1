-- How the bytes of a table are printed: as numbers, or as text with single bytes between.
-- What a directive codes says `Coding`.
use Rattle.stmt65.specs.SourceLine.{Datum, NumberDatum, StringDatum}
use Rattle.std.specs.Prelude.{if◌then◌else◌, ◌&&◌, ◌*◌, ◌+◌, ◌/◌, ◌==◌, ◌∷◌, Bool, List, [], drop, length, nat_lt, not, reverse, suc, take, zero, ℕ}
use Rattle.stmt65.specs.Types.{Addr, BigEndian, ByteOrder, Dbyt, Directive, Dword, LittleEndian}
use Rattle.stmt65.specs.declared.directive.Directive.TheVariants.{Word}

-- ---- numbers

-- how many bytes of a table an entry has
abbrev pub entry_len : Directive → ℕ
entry_len Word = 2
entry_len Dbyt = 2
entry_len Addr = 2
entry_len Dword = 4

-- in which order they stand
abbrev pub order_of : Directive → ByteOrder
order_of Word = LittleEndian
order_of Dbyt = BigEndian
order_of Addr = LittleEndian
order_of Dword = LittleEndian

-- bytes in this order with the low one first
abbrev pub in_order : ByteOrder → List ℕ → List ℕ
in_order LittleEndian bytes = bytes
in_order BigEndian bytes = reverse bytes

-- the number of bytes whose low one is first
unfoldable pub low_number : List ℕ → ℕ
low_number [] = 0
low_number (b ∷ bs) = b + 256 * low_number bs

-- this many pieces of a length
unfoldable pub pieces : ℕ → ℕ → List ℕ → List (List ℕ)
pieces zero len bytes = []
pieces (suc count) len bytes = take len bytes ∷ pieces count len (drop len bytes)

-- the entries of a table, each as its bytes
unfoldable pub entries : Directive → List ℕ → List (List ℕ)
entries d bytes = pieces (length bytes / entry_len d) (entry_len d) bytes

-- the number of an entry
abbrev pub entry_number : Directive → List ℕ → ℕ
entry_number d bytes = low_number (in_order (order_of d) bytes)

-- ---- text

-- $20 to $7E without `"` and `\`
abbrev pub is_plain : ℕ → Bool
is_plain b = nat_lt 0x1F b && nat_lt b 0x7F && not (b == 0x22) && not (b == 0x5C)

-- a plain byte before the rest of a text: it joins a stretch that follows, or is one of its own
abbrev pub onto_stretch : ℕ → List Datum → List Datum
onto_stretch b (StringDatum stretch ∷ ds) = StringDatum (b ∷ stretch) ∷ ds
onto_stretch b ds = StringDatum (b ∷ []) ∷ ds

-- a byte before the rest of a text
abbrev pub onto_text : ℕ → List Datum → List Datum
onto_text b ds = if is_plain b then onto_stretch b ds else NumberDatum b ∷ ds

-- the longest stretches of plain bytes, and each other byte by itself
unfoldable pub cut_text : List ℕ → List Datum
cut_text [] = []
cut_text (b ∷ bs) = onto_text b (cut_text bs)
