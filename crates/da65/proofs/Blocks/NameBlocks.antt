-- The lines of constants, and the forward lines of groups.
use Rattle.std.proofs.Common.{◌≡◌, ℕ, zero, suc, Bool, true, false, eqb, ◌+◌, ◌-◌, ◌<◌, ◌≤◌, ◌∷◌, ◌++◌, refl, ap, ◌∙◌, arith, []}
use Rattle.std.specs.Prelude.{◌||◌, ◌&&◌, nat_lt, if◌then◌else◌}
use Rattle.std.proofs.Math.Bool.{or-false}
use Rattle.std.proofs.lemmas.Bool.{and_parts, eqb-true, false_from_ne_true, le-ltb, le-leb, lt-ltb}
use Rattle.std.proofs.lemmas.Bool.Decides.{nat_tests}
use Rattle.da65.specs.Words.{AreSound, Cpu, AddressNames, assignment_line, base_name, comment_lines, constant_lines, constants, forward_line, forward_lines, forwards, has_constant_line, is_base, names_of}
use Rattle.stmt65.specs.Words.{Assignment, PlaceAssignment, defined_by}
use Rattle.map65.specs.Words.{ImageView, MapView, addresses, end_of}
use Rattle.da65.proofs.Blocks.EachLine.{each_comment}
use Rattle.da65.proofs.Blocks.LineBlocks.{IsQuiet, base_gives, nothing_stands, quiet_beside, quiet_gives}
use Rattle.da65.proofs.Blocks.LineLaws.{Gives, gives_append, gives_from, gives_none, gives_to, point}

-- ---- what is known at each place

-- of the constants, those below an address
abbrev pub constants_to : AddressNames → ℕ → ℕ → Bool
constants_to m k v = m.has_constant v && nat_lt v k

-- the constants, and all bases below an address
abbrev pub names_to : AddressNames → ℕ → ℕ → Bool
names_to m at v = m.has_constant v || nat_lt v at

-- and those after it up to another
abbrev pub forwards_to : AddressNames → ℕ → ℕ → ℕ → Bool
forwards_to m at u v = m.has_constant v || (nat_lt v at || (nat_lt at v && nat_lt v u))

-- ---- constants

apart : (k v : ℕ) → eqb k v ≡ false → nat_lt v k ≡ nat_lt v (k + 1)
apart k v e = grind (arith, nat_tests)

-- one more: it is k, or it is below
constants_step : (m : AddressNames) (k v : ℕ) → m.has_constant k ≡ true → (constants_to m k v || eqb k v) ≡ constants_to m (k + 1) v
constants_step m k v h = grind (arith, eqb-true, lt-ltb, le-ltb, apart, or-false)

constants_skip : (m : AddressNames) (k v : ℕ) → has_constant_line m k ≡ false → is_base m v ≡ true → constants_to m k v ≡ constants_to m (k + 1) v
constants_skip m k v h b = grind (arith, eqb-true, apart)

-- ---- forward lines

-- a base inside the image has no constant line
pub no-constant : (image : ImageView) (m : AddressNames) (u : ℕ) → AreSound image m → is_base m u ≡ true → image.start ≤ u → u < end_of image → m.has_constant u ≡ false
no-constant image m u names base low high = names.constants u base ∙ rw (le-leb image.start u low, lt-ltb u (end_of image) high) refl

forwards_step : (m : AddressNames) (at u v : ℕ) → at < u → (forwards_to m at u v || eqb u v) ≡ forwards_to m at (u + 1) v
forwards_step m at u v h = grind (arith, nat_tests)

forwards_skip : (m : AddressNames) (at u v : ℕ) → is_base m u ≡ false → is_base m v ≡ true → forwards_to m at u v ≡ forwards_to m at (u + 1) v
forwards_skip m at u v h b = ap (λ (t : Bool). m.has_constant v || (nat_lt v at || (nat_lt at v && t))) (apart u v (false_from_ne_true (eqb u v) (λ e. let base : is_base m u ≡ true = rw (eqb-true u v e) b in absurd cc)))

forwards_new : (m : AddressNames) (at u : ℕ) → m.has_constant u ≡ false → at < u → forwards_to m at u u ≡ false
forwards_new m at u out low = rw (out, le-ltb u at (omega arith), le-ltb u u (omega arith), lt-ltb at u low) refl

-- ---- of a map

module _ (m : MapView) (names : AreSound m.image (names_of m)) (at : ℕ) (room : at ≤ 65536) (cpu : Cpu) where
  abbrev n : AddressNames
  n = names_of m

  constant_gives : (v : ℕ) → Gives n (point at cpu (constants_to n v)) (constant_lines m v) [] (point at cpu (constants_to n (v + 1)))
  unfolding defined_by
  constant_gives v = go (has_constant_line n v) refl
    where
      go : (t : Bool) → has_constant_line n v ≡ t → Gives n (point at cpu (constants_to n v)) (if t then comment_lines m v ++ assignment_line n v ∷ [] else []) [] (point at cpu (constants_to n (v + 1)))
      go true is =
          let both = and_parts (is_base n v) (n.has_constant v) is in
          gives_append (comment_lines m v) (assignment_line n v ∷ [])
          (quiet_gives n at cpu (constants_to n v) (comment_lines m v) (each_comment m IsQuiet (quiet_beside m) v) room)
          (gives_to (constants_to n (v + 1)) (λ w b. constants_step n v w both.1)
          (base_gives m.image n (point at cpu (constants_to n v)) (assignment_line n v) (Assignment (base_name n v) v) [] at v names refl
          (λ above known. nothing_stands _ _) both.0 (rw both.1 (le-ltb v v (omega arith))) (rw both.1 refl) (omega arith) room))
      go false is = gives_from (constants_to n v) (λ w b. constants_skip n v w is b) (gives_none n (point at cpu (constants_to n (v + 1))))

  pub constants_give : (count v : ℕ) → Gives n (point at cpu (constants_to n v)) (constants m count v) [] (point at cpu (constants_to n (v + count)))
  unfolding addresses
  constants_give zero v = let z : v + 0 ≡ v = omega arith in rw z (gives_none n (point at cpu (constants_to n v)))
  constants_give (suc count) v =
      let next : v + 1 + count ≡ v + suc count = omega arith in
      rw (← next) (gives_append (constant_lines m v) (constants m count (v + 1)) (constant_gives v) (constants_give count (v + 1)))

  forward_gives : (u : ℕ) → m.image.start ≤ at → at < u → u < end_of m.image → Gives n (point at cpu (forwards_to n at u)) (forward_lines n at u) [] (point at cpu (forwards_to n at (u + 1)))
  unfolding defined_by
  forward_gives u low up high = go (is_base n u) refl
    where
      go : (t : Bool) → is_base n u ≡ t → Gives n (point at cpu (forwards_to n at u)) (if t then forward_line n at u ∷ [] else []) [] (point at cpu (forwards_to n at (u + 1)))
      go true base =
          let out = no-constant m.image n u names base (omega arith) high in
          let value : at + (u - at) ≡ u = omega arith in
          gives_to (forwards_to n at (u + 1)) (λ v b. forwards_step n at u v up)
          (base_gives m.image n (point at cpu (forwards_to n at u)) (forward_line n at u) (PlaceAssignment (base_name n u) (u - at)) [] at u names refl
          (λ above known. nothing_stands _ _) base (forwards_new n at u out up) (rw (value, out) refl) (omega arith) room)
      go false none = gives_from (forwards_to n at u) (λ v b. forwards_skip n at u v none b) (gives_none n (point at cpu (forwards_to n at (u + 1))))

  pub forwards_give : (count u : ℕ) → m.image.start ≤ at → at < u → u + count ≤ end_of m.image → Gives n (point at cpu (forwards_to n at u)) (forwards n at count u) [] (point at cpu (forwards_to n at (u + count)))
  unfolding addresses
  forwards_give zero u low up high = let z : u + 0 ≡ u = omega arith in rw z (gives_none n (point at cpu (forwards_to n at u)))
  forwards_give (suc count) u low up high =
      let next : u + 1 + count ≡ u + suc count = omega arith in
      rw (← next) (gives_append (forward_lines n at u) (forwards n at count (u + 1)) (forward_gives u low up (omega arith)) (forwards_give count (u + 1) low (omega arith) (omega arith)))
