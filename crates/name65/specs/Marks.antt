-- The addresses that groups of the lines `#: ..` name: of the bytes of HALVES, but for those that a NUMBER has, and of
-- DIFFERENCE, from START to END of AFTER, and of the instruction of BASE.
use Rattle.std.specs.Prelude.{◌≡◌, ℕ, ◌+◌, ◌-◌, ◌&&◌, ◌||◌, min, nat_le, nat_lt, not, Bool, false, List, Option, Some, None}
use Rattle.std.specs.List.{list_any}
use Rattle.std.specs.Option.{unwrap_or}
use Rattle.info65.specs.declared.tags.tag.Tag.{Tag}
use Rattle.info65.specs.declared.tags.tag.TagKind.{TagKind}
use Rattle.info65.specs.declared.tags.tag.TagKind.TheVariants as kind
use Rattle.map65.specs.Words.{MarksView, is_marked}
use Rattle.name65.specs.declared.marks.NamedBytes.{NamedBytes}
use Rattle.name65.specs.declared.marks.Sort.{Sort}
use Rattle.name65.specs.declared.marks.Sort.TheVariants.{Half, Number, Other}

-- one of so many addresses from one on, up to $FFFF
abbrev pub is_among : Option ℕ → ℕ → ℕ → Bool
is_among None n a = false
is_among (Some first) n a = nat_le first a && nat_lt a (min (first + n) 65536)

-- how many addresses there are from one to another
abbrev pub count_to : Option ℕ → Option ℕ → ℕ
count_to (Some first) (Some last) = (last + 1) - first
count_to first last = 0

-- the group says this of the address
unfoldable pub has_address : Sort → ℕ → Tag → Bool
has_address sort a t = by_kind sort t.kind
  where
    by_kind : Sort → TagKind → Bool
    by_kind Half kind.Halves = is_among t.low (unwrap_or t.size 1) a || is_among t.high (unwrap_or t.size 1) a
    by_kind Number kind.Number = is_among t.address 1 a
    by_kind Other kind.Difference = is_among t.address 2 a
    by_kind Other kind.Base = is_among t.address 1 a
    by_kind Other kind.After = is_among t.first (count_to t.first t.last) a
    by_kind _ _ = false

-- one of the groups says this of the address
abbrev pub is_one : Sort → List Tag → ℕ → Bool
is_one sort tags a = list_any (has_address sort a) tags

-- one of the groups names the address
abbrev pub is_named : List Tag → ℕ → Bool
is_named tags a = is_one Other tags a || (is_one Half tags a && not (is_one Number tags a))

-- the same, as the code has marked it
abbrev pub names_seen : NamedBytes → ℕ → Bool
names_seen n a = is_marked n.others a || (is_marked n.halves a && not (is_marked n.numbers a))

-- those that were marked, and those of which a test holds
abbrev pub MarksAlso : (ℕ → Bool) → MarksView → MarksView → Type 0
MarksAlso holds old new = (a : ℕ) → is_marked new a ≡ (is_marked old a || holds a)
