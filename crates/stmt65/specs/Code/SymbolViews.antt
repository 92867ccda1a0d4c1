-- What the table of names stands for.
use denote.Ref.{Bor}
use Rattle.std.specs.Prelude.{◌≡◌, ℕ, zero, suc, ◌+◌, ◌*◌, ◌/◌, ◌%◌, ◌<◌, ◌≤◌, Bool, false, List, [], ◌∷◌, get_or, length, map, fold, if◌then◌else◌, Option, Some, None}
use Rattle.std.specs.Int.Bits.{bit_xor}
use Rattle.std.specs.Option.{option_map}
use Rattle.std.specs.List.{slice_get}
use Rattle.std.specs.Str.{bytes_eq}
use Rattle.std.specs.BTreeMap.{BTreeMap, get_by}
use Rattle.std.specs.Cmp.Lexicographic.{slice_cmp}
use Rattle.std.specs.Ordering.{nat_cmp}
use Rattle.stmt65.specs.declared.assembling.symbols.Definition.{Definition as CodeDefinition}
use Rattle.stmt65.specs.Symbols.{Definition}

abbrev pub definition_of : CodeDefinition → Definition
definition_of d = record { name = d.name.now; value = d.value; constant = d.constant }

-- where the first definition of a name stands
unfoldable pub first_at : List ℕ → List Definition → Option ℕ
first_at q [] = None
first_at q (d ∷ ds) = if bytes_eq d.name q then Some 0 else option_map suc (first_at q ds)

-- a hash of a name
unfoldable pub hash_of : List ℕ → ℕ
hash_of = fold (λ n b. (n + b) % 18446744073709551616 * 11400714819323198485 % 18446744073709551616) 0

-- the slot of a name, one of so many, by the upper half of the hash and its uppermost bits
abbrev pub slot_of : ℕ → List ℕ → ℕ
slot_of count q = bit_xor (hash_of q / 4294967296) (hash_of q / 140737488355328) % count

abbrev pub is_named : List ℕ → Option CodeDefinition → Bool
is_named q None = false
is_named q (Some d) = bytes_eq d.name.now q

-- where a name stands by the definition whose name took its slot, from 1, or else where the tree says
abbrev pub place_by : List ℕ → List CodeDefinition → ℕ → Option ℕ → Option ℕ
place_by q ds zero other = None
place_by q ds (suc i) other = if is_named q (slice_get ds i) then Some i else other

-- where the tree leads a name
abbrev pub place_of : BTreeMap (Bor (List ℕ)) ℕ → List ℕ → Option ℕ
place_of others q = get_by (λ k. slice_cmp nat_cmp q k.now) others

-- which definition's name took a slot, from 1; 0 stands for none
abbrev pub taker_of : List ℕ → ℕ → ℕ
taker_of slots k = get_or slots k 0

-- The slot of a name leads to its first definition, or else the tree does; the tree has no name whose slot is free.
pub record IsIndex (ds : List CodeDefinition) (count : ℕ) (taker : ℕ → ℕ) (others : List ℕ → Option ℕ) : Type 0 where
  pub some : 0 < count
  pub within : (k : ℕ) → taker k ≤ length ds
  pub free : (q : List ℕ) → taker (slot_of count q) ≡ 0 → others q ≡ None
  pub finds : (q : List ℕ) → place_by q ds (taker (slot_of count q)) (others q) ≡ first_at q (map definition_of ds)
