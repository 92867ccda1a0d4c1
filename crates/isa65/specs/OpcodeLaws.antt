-- What a test of a whole table says of each entry.
--
-- The laws of every set of opcodes are proved once, for any table that passes these tests: an opcode is a byte; a
-- mnemonic in a mode has an opcode if and only if that opcode stands for them, so no opcode stands for two pairs and no
-- pair has two; and of two modes of a mnemonic that are written alike one is the zero-page mode of the other, so an
-- operand's text and its size decide the mode.
use Rattle.std.specs.Prelude.{◌≡◌, ◌⊎◌, ◌↔◌, ◌<◌, ◌||◌, not, nat_lt, IsSome, ℕ, Bool, true, false, ◌&&◌, [], ◌∷◌, map, Option, Some, None, ◌==◌, refl}
use Rattle.std.proofs.Common.{inl, inr, ap}
use Rattle.std.proofs.lemmas.Bool.{cond_both, eqb-true, ltb-true, and_parts, or_cases, both_ways, not-true}
use Rattle.std.proofs.lemmas.Slice.Eq.{bytes_eq-Decides}
use Rattle.std.specs.List.{list_all}
use Rattle.std.specs.Str.{bytes_eq}
use denote.Enum.Bare.{sameb, same_true, true_same}
use Rattle.isa65.specs.Mode.{written, zero_page_of, IsZeroPageOf}
use Rattle.isa65.specs.contracts.mnemonic.Mnemonic as mnemonic
use Rattle.isa65.specs.contracts.mode.Mode as mode
use Rattle.isa65.specs.Types.{Mnemonic, Mode, Op}
use Rattle.isa65.specs.Opcodes.{DifferInSize, Entry, Table, InTable, decoded, encoded}

-- two functions that agree over a list agree at each of its elements
map_at : {X : Type 0} (f g : Entry → X) (t : Table) (e : Entry) → map f t ≡ map g t → InTable e t → f e ≡ g e
map_at f g [] e same h = absurd h
map_at f g (x ∷ t) e same (inl p) = let q : f x ≡ g x = cc in rw (← p) q
map_at f g (x ∷ t) e same (inr h) = map_at f g t e (let q : map f t ≡ map g t = cc in q) h

-- an entry is its three parts
entry_is : (e : Entry) (b : ℕ) (m : Mnemonic) (x : Mode) → e.0 ≡ b → e.1 ≡ m → e.2 ≡ x → e ≡ (b, m, x)
entry_is e b m x p q r = λ i. (p i, q i, r i)

-- what an opcode stands for is an entry
pub decoded-entry : (t : Table) (b : ℕ) (o : Op) → decoded t b ≡ Some o → InTable (b, o.mnemonic, o.mode) t
decoded-entry [] b o h = cc
decoded-entry (e ∷ t) b o h =
    cond_both (e.0 == b) (Some (record { mnemonic = e.1; mode = e.2 })) (decoded t b) (λ v. v ≡ Some o → InTable (b, o.mnemonic, o.mode) (e ∷ t))
    (λ p q. let name : e.1 ≡ o.mnemonic = cc in let way : e.2 ≡ o.mode = cc in inl (entry_is e b o.mnemonic o.mode (eqb-true e.0 b p) name way))
    (λ p q. inr (decoded-entry t b o q)) h

-- the opcode of a pair is an entry
pub encoded-entry : (t : Table) (m : Mnemonic) (x : Mode) (b : ℕ) → encoded t m x ≡ Some b → InTable (b, m, x) t
encoded-entry [] m x b h = cc
encoded-entry (e ∷ t) m x b h =
    cond_both (sameb mnemonic.the_type e.1 m && sameb mode.the_type e.2 x) (Some e.0) (encoded t m x) (λ v. v ≡ Some b → InTable (b, m, x) (e ∷ t))
    (λ p q. let both = and_parts _ _ p in
    let name : e.1 ≡ m = same_true mnemonic.the_type tt e.1 m both.0 in
    let way : e.2 ≡ x = same_true mode.the_type tt e.2 x both.1 in
    let code : e.0 ≡ b = cc in inl (entry_is e b m x code name way))
    (λ p q. inr (encoded-entry t m x b q)) h

abbrev pub is_mode : Mode → Option Mode → Bool
is_mode x None = false
is_mode x (Some z) = sameb mode.the_type z x

-- x is the zero-page mode that is written like y
abbrev pub is_zero_page_of : Mode → Mode → Bool
is_zero_page_of x y = is_mode x (zero_page_of y)

-- two entries of one mnemonic that are written alike differ in the size of their operand alone
abbrev pub differ_in_size : Entry → Entry → Bool
differ_in_size e f = not (sameb mnemonic.the_type e.1 f.1) || not (bytes_eq (written e.2) (written f.2)) || sameb mode.the_type e.2 f.2 || is_zero_page_of e.2 f.2 || is_zero_page_of f.2 e.2

-- the tests of a whole table: a look-up by opcode finds each entry, and so does one by mnemonic and mode; each opcode
-- is a byte; two modes of a mnemonic that are written alike are a zero-page and absolute pair
pub record IsSound (t : Table) : Type 0 where
  pub by_opcode : map (λ e. decoded t e.0) t ≡ map (λ e. Some (record { mnemonic = e.1; mode = e.2 })) t
  pub by_pair : map (λ e. encoded t e.1 e.2) t ≡ map (λ e. Some e.0) t
  pub bytes : map (λ e. nat_lt e.0 256) t ≡ map (λ e. true) t
  pub sizes : map (λ e. list_all (differ_in_size e) t) t ≡ map (λ e. true) t

-- an opcode that a look-up finds is that of an entry
some_entry : (t : Table) (m : Mnemonic) (x : Mode) (o : Option ℕ) → encoded t m x ≡ o → IsSome o → (b : ℕ) × InTable (b, m, x) t
some_entry t m x None e h = cc
some_entry t m x (Some b) e h = (b, encoded-entry t m x b e)

-- a test of each entry, at one
list_all_at : (p : Entry → Bool) (t : Table) (e : Entry) → list_all p t ≡ true → InTable e t → p e ≡ true
list_all_at p [] e h here = absurd here
list_all_at p (x ∷ t) e h (inl here) = rw (← here) (and_parts (p x) (list_all p t) h).0
list_all_at p (x ∷ t) e h (inr here) = list_all_at p t e (and_parts (p x) (list_all p t) h).1 here

is_mode-some : (x : Mode) (o : Option Mode) → is_mode x o ≡ true → o ≡ Some x
is_mode-some x None h = cc
is_mode-some x (Some z) h = ap Some (same_true mode.the_type tt z x h)

-- what the test of two entries says of two modes of one mnemonic
two_modes : (a b : ℕ) (m : Mnemonic) (x y : Mode) → differ_in_size (a, m, x) (b, m, y) ≡ true → written x ≡ written y → (x ≡ y) ⊎ (IsZeroPageOf x y ⊎ IsZeroPageOf y x)
two_modes a b m x y h same =
    let name : sameb mnemonic.the_type m m ≡ true = true_same mnemonic.the_type m m refl in
    let alike : bytes_eq (written x) (written y) ≡ true = (bytes_eq-Decides (written x) (written y)).1 same in
    elim (or_cases _ _ h) [
      | inl h₁ ↦ elim (or_cases _ _ h₁) [
        | inl h₂ ↦ elim (or_cases _ _ h₂) [
          | inl h₃ ↦ elim (or_cases _ _ h₃) [ inl h₄ ↦ absurd (both_ways _ (not-true _ h₄) name) | inr h₄ ↦ absurd (both_ways _ (not-true _ h₄) alike) ]
          | inr h₃ ↦ inl (same_true mode.the_type tt x y h₃)
        ]
        | inr h₂ ↦ inr (inl (is_mode-some x (zero_page_of y) h₂))
      ]
      | inr h₁ ↦ inr (inr (is_mode-some y (zero_page_of x) h₁))
    ]

-- what the tests say of each opcode and each pair
module _ (t : Table) (sound : IsSound t) where
  pub opcode-lt : (b : ℕ) (op : Op) → decoded t b ≡ Some op → b < 256
  opcode-lt b op h = ltb-true b 256 (map_at (λ e. nat_lt e.0 256) (λ e. true) t (b, op.mnemonic, op.mode) sound.bytes (decoded-entry t b op h))

  pub encoded-decoded : (b : ℕ) (op : Op) → (encoded t op.mnemonic op.mode ≡ Some b) ↔ (decoded t b ≡ Some op)
  encoded-decoded b op = (
    λ h. map_at (λ e. decoded t e.0) (λ e. Some (record { mnemonic = e.1; mode = e.2 })) t (b, op.mnemonic, op.mode) sound.by_opcode (encoded-entry t op.mnemonic op.mode b h),
    λ h. map_at (λ e. encoded t e.1 e.2) (λ e. Some e.0) t (b, op.mnemonic, op.mode) sound.by_pair (decoded-entry t b op h),
  )

  pub written_alike : DifferInSize t
  written_alike m x y p q same =
      let first = some_entry t m x (encoded t m x) refl p in
      let second = some_entry t m y (encoded t m y) refl q in
      let e : Entry = (first.0, m, x) in
      two_modes first.0 second.0 m x y (list_all_at (differ_in_size e) t (second.0, m, y) (map_at (λ f. list_all (differ_in_size f) t) (λ f. true) t e sound.sizes first.1) second.1) same
