-- Targets, and addresses that have a name, lie in the address space.
use Rattle.std.proofs.Common.{◌≡◌, ◌∙◌, ℕ, zero, suc, ◌+◌, ◌-◌, ◌<◌, ◌≤◌, ◌==◌, true, List, ◌∷◌, Option, Some, None, nat_lt, refl, sym, ap, arith, ⊎_elim, []}
use Rattle.std.specs.Prelude.{IfSome, slice_index}
use Rattle.std.proofs.lemmas.Bool.{and_parts, cond_both, eqb-true, eqb-false, ltb-true}
use Rattle.std.proofs.lemmas.List.Elements.{All-drop, All-head, All-tail}
use Rattle.isa65.specs.Words.{decoded, size_of}
use Rattle.da65.specs.Words.{Address, Direct, Instruction, Mnemonic, Op, Pattern, Return, Row, Two}
use Rattle.isa65.specs.declared.row.OperandKind.TheVariants.{Word, Distance}
use Rattle.isa65.specs.declared.row.Row.TheVariants.{One}
use Rattle.info65.specs.Words.{AreNames, NameView, blank_name, covering, layout_of, name_at}
use Rattle.info65.specs.declared.information.range.Entry.{Entry}
use Rattle.info65.proofs.Public.{last_name}
use Rattle.map65.specs.Words.{AreBytes, Base, ImageView, IsPlaced, IsReferenced, MapView, base_at, byte_of, bytes_from, code_target, entry_of, entry_target, is_inside, is_jump, is_referenced, item_len, only_inside, opcodes, operand_target, return_target, role_of, row_target, size_at, target_at, target_for, target_of, operand_word, word_target}
use Rattle.map65.proofs.Public.{begun, size-fits, reference_law}
use Rattle.da65.proofs.Names.NameTexts.{base-cases}
use Rattle.da65.proofs.Statements.FragmentLaws.{target_is}
use Rattle.da65.proofs.Statements.StandsLaws.{at_some}

pub byte-small : (bytes : List ℕ) → AreBytes bytes → (i : ℕ) → slice_index bytes i < 256
byte-small [] are i = omega arith
byte-small (b ∷ bytes) are zero = All-head (λ b. b < 256) b bytes are
byte-small (b ∷ bytes) are (suc i) = byte-small bytes (All-tail (λ b. b < 256) b bytes are) i

pub word-small : (bytes : List ℕ) → AreBytes bytes → operand_word bytes < 65536
word-small bytes are = let low = byte-small bytes are 1 in let high = byte-small bytes are 2 in omega arith

pub entry-small : (bytes : List ℕ) → AreBytes bytes → entry_of bytes < 65536
entry-small bytes are = let low = byte-small bytes are 0 in let high = byte-small bytes are 1 in omega arith

-- ---- targets

-- a target, if there is one, lies in the address space
abbrev IsSmall : Option ℕ → Type 0
IsSmall target = IfSome target (λ t. t < 65536)

inside-small : (image : ImageView) (t : ℕ) → t < 65536 → IsSmall (only_inside image t)
inside-small image t low = cond_both (is_inside image t) (Some t) None IsSmall (λ _. low) (λ _. tt)

word-target-small : (image : ImageView) (m : Mnemonic) (p : Pattern) (w : ℕ) → w < 65536 → IsSmall (word_target image m p w)
word-target-small image m Direct w low = cond_both (is_jump m) (Some w) (only_inside image w) IsSmall (λ _. low) (λ _. inside-small image w low)
word-target-small image m _ w low = inside-small image w low

distance-small : (next b : ℕ) → next ≤ 65536 → b < 256 → IsSmall (target_of next b)
distance-small next b room small = go (target_of next b) refl
  where
    go : (o : Option ℕ) → target_of next b ≡ o → IsSmall o
    go None e = tt
    go (Some t) e = (target_is next b t room small e).room

row-small : (image : ImageView) (m : Mnemonic) (r : Row) (next : ℕ) (bytes : List ℕ) → AreBytes bytes → next ≤ 65536 → IsSmall (row_target image m r next bytes)
row-small image m (One p Word) next bytes are room = word-target-small image m p (operand_word bytes) (word-small bytes are)
row-small image m (One p Distance) next bytes are room = distance-small next (byte_of bytes) room (byte-small bytes are 1)
row-small image m (Two k Distance) next bytes are room = distance-small next (slice_index bytes (1 + size_of k)) room (byte-small bytes are (1 + size_of k))
row-small image m _ next bytes are room = tt

code-small : (image : ImageView) (o : Option Op) (n a : ℕ) (bytes : List ℕ) → AreBytes bytes → a + n ≤ 65536 → IsSmall (code_target image o n a bytes)
unfolding operand_target
code-small image None n a bytes are room = tt
code-small image (Some op) n a bytes are room = grind (arith, row-small, eqb-true)

return-small : (w : ℕ) → w < 65536 → IsSmall (return_target w)
return-small w low = cond_both (w == 65535) None (Some (w + 1)) IsSmall (λ _. tt) (λ other. omega (arith, low, eqb-false w 65535 other))

entry-target-small : (m : MapView) (e : Entry) (n a : ℕ) (bytes : List ℕ) → AreBytes bytes → a + n ≤ 65536 → IsSmall (entry_target m e n a bytes)
entry-target-small m Instruction n a bytes are room = code-small m.image (decoded (opcodes m) (slice_index bytes 0)) n a bytes are room
entry-target-small m Address n a bytes are room = cond_both (n == 2) (Some (entry_of bytes)) None IsSmall (λ _. entry-small bytes are) (λ _. tt)
entry-target-small m Return n a bytes are room = cond_both (n == 2) (return_target (entry_of bytes)) None IsSmall (λ _. return-small (entry_of bytes) (entry-small bytes are)) (λ _. tt)
entry-target-small m _ n a bytes are room = tt

target-small : (m : MapView) (item : ℕ) → IsPlaced m.image → AreBytes m.image.bytes → 0 < item_len m item → IsSmall (target_at m item)
unfolding target_at target_for
target-small m item placed are some =
    let h = begun m item some in
    let k : ℕ = item - m.image.start in
    let place : m.image.start + k ≡ item = omega (arith, h.low) in
    let fits = size-fits m k (omega (arith, h.low, h.high)) in
    let size : size_at m (m.image.start + k) ≡ item_len m item = ap (size_at m) place ∙ sym h.len in
    entry-target-small m (layout_of (role_of m.info item)).entry (item_len m item) item (bytes_from m.image item) (All-drop (λ b. b < 256) k m.image.bytes are) (omega (arith, place, fits, size, placed.room))

-- ---- addresses that have a name

referenced-small : (m : MapView) (a : ℕ) → IsPlaced m.image → AreBytes m.image.bytes → is_referenced m a ≡ true → a < 65536
referenced-small m a placed are h =
    let w : IsReferenced m a = (reference_law m a).0 h in
    let small = at_some (λ t. t < 65536) (target_at m w.is_target.item) w.target w.is_target.has (target-small m w.is_target.item placed are w.is_target.begins) in
    ⊎_elim (λ same. omega (arith, same, small)) (λ inner. omega (arith, inner.after, small)) w.place

name-small : (names : List NameView) (a : ℕ) (v : NameView) → AreNames names → covering names a ≡ Some v → a < 65536
name-small names a v are e =
    let last = last_name names a v e in
    let name : NameView = name_at names last.index in
    let is = are.each last.index blank_name last.low in
    let bounds = and_parts _ (nat_lt a (name.address + name.size)) last.covers_it in
    omega (arith, is.room, ltb-true a (name.address + name.size) bounds.1)

pub base-small : (m : MapView) (a : ℕ) (b : Base) → IsPlaced m.image → AreBytes m.image.bytes → AreNames m.info.names → base_at m a ≡ Some b → a < 65536
base-small m a b placed are names e = base-cases m a b (λ _. a < 65536) (λ v f. name-small m.info.names a v names f) (referenced-small m a placed are) e
