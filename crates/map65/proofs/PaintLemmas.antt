-- Roles that are written into cells.
use Rattle.std.proofs.Common.{◌≡◌, ◌∙◌, ℕ, ◌+◌, ◌/◌, ◌%◌, ◌<◌, ◌&&◌, Bool, true, false, List, [], ◌∷◌, drop, length, get_or, refl, ap, arith, max, min}
use Rattle.std.proofs.lemmas.Bool.Decides.{nat_tests}
use Rattle.std.proofs.lemmas.List.{drop_more}
use Rattle.info65.specs.Words.{has_address}
use Rattle.map65.specs.Words.{AreMarkedBelow, AreNamed, ArePainted, Changes, Code, ImageView, MapView, RangeSpec, bit, cell_of, changed, code_of, end_of, is_border, is_inside, is_within, nowhere, painted, role_at, role_by, role_in, with_border}
use Rattle.map65.proofs.CellLemmas.{cell-small}

-- ---- one range after the other

-- the addresses of the image that belong to a range
pub range_within : (image : ImageView) (range : RangeSpec) (from to a : ℕ) → from ≡ max range.first image.start → to ≡ max (min (range.last + 1) (end_of image)) from → is_within from to a ≡ (is_inside image a && has_address range a)
range_within image range from to a low high = grind (arith, nat_tests)

painted-next : (image : ImageView) (r : RangeSpec) (rs : List RangeSpec) (a : ℕ) → changed (painted r.role) (is_inside image a && has_address r a) (cell_of (role_by image rs a) 0) ≡ cell_of (role_by image (r ∷ rs) a) 0
unfolding role_by role_in
painted-next image r rs a = grind arith

pub painted-more : (image : ImageView) (ranges : List RangeSpec) (n : ℕ) (d : RangeSpec) (old new : List ℕ) → n < length ranges → ArePainted image (drop (n + 1) ranges) old → Changes (painted (get_or ranges n d).role) (λ a. is_inside image a && has_address (get_or ranges n d) a) old new → ArePainted image (drop n ranges) new
painted-more image ranges n d old new below so_far h = grind (arith, painted-next, drop_more)

painted-code : (image : ImageView) (a : ℕ) → changed (painted Code) (is_inside image a) 0 ≡ cell_of (role_by image [] a) 0
unfolding role_by role_in cell_of code_of
painted-code image a = grind arith

-- before the ranges, the image is code
pub code_painted : (image : ImageView) (old new : List ℕ) → ((a : ℕ) → a < 65536 → get_or old a 0 ≡ 0) → Changes (painted Code) (is_inside image) old new → ArePainted image [] new
code_painted image old new blank h = grind (arith, painted-code)

role_by-all : (m : MapView) (a : ℕ) → role_by m.image m.info.ranges a ≡ role_at m a
unfolding role_by role_at
role_by-all m a = refl

plain-cell : (m : MapView) (n a : ℕ) (cells : List ℕ) → n ≡ 0 → ArePainted m.image (drop n m.info.ranges) cells → a < 65536 → get_or cells a 0 ≡ cell_of (role_at m a) 0
plain-cell m n a cells none are room = grind (arith, role_by-all)

-- ---- borders

-- a border that is added to a cell without one
record IsBordered (c x : ℕ) (p : Bool) : Type 0 where
  low : x % 128 ≡ c
  name : x / 128 % 2 ≡ 0
  border : x / 256 ≡ bit p

is-bordered : (c x : ℕ) (p : Bool) → c < 128 → x ≡ changed with_border p c → IsBordered c x p
unfolding with_border
is-bordered c x true small is = record { low = omega (arith, is, small); name = omega (arith, is, small); border = omega (arith, is, small) }
is-bordered c x false small is = record { low = omega (arith, is, small); name = omega (arith, is, small); border = omega (arith, is, small) }

-- ---- cells of roles and borders

module _ (m : MapView) (n : ℕ) (cells new : List ℕ) (none : n ≡ 0) (are : ArePainted m.image (drop n m.info.ranges) cells) (marked : Changes with_border (is_border m.info.segments) cells new) where
  cell-is : (a : ℕ) → a < 65536 → IsBordered (cell_of (role_at m a) 0) (get_or new a 0) (is_border m.info.segments a)
  cell-is a room =
      is-bordered (cell_of (role_at m a) 0) (get_or new a 0) (is_border m.info.segments a) (cell-small (role_at m a) 0 (omega arith))
      (marked.each a room ∙ ap (changed with_border (is_border m.info.segments a)) (plain-cell m n a cells none are room))

  -- no item is marked yet
  pub none-marked : AreMarkedBelow m 0 new
  none-marked = record {
    count = marked.count;
    marked = λ a room before. absurd (omega arith);
    plain = λ a room after. (cell-is a room).low;
    borders = record { each = λ a room. (cell-is a room).border };
  }

  -- and no cell has its bit for a name
  pub none-named : AreNamed nowhere new
  none-named = record { each = λ a room. (cell-is a room).name }
