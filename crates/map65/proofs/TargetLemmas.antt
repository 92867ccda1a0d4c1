-- Where no item begins there is no target, and none where one of a single byte does.
use Rattle.std.proofs.Common.{◌≡◌, ℕ, ◌==◌, ◌<◌, false, List, None, Option, Some, arith, get_or, refl}
use Rattle.std.proofs.lemmas.Bool.{eqb-true, ne_eqb}
use Rattle.isa65.specs.Words.{decoded}
use Rattle.map65.specs.Words.{Address, Entry, ImageView, Instruction, MapView, Op, RangeType, Return, bytes_from, code_target, entry_target, item_len, opcodes, operand_target, role_of, target_at, target_for}
use Rattle.info65.specs.Words.{layout_of}

code-short : (image : ImageView) (o : Option Op) (n a : ℕ) (bytes : List ℕ) → n < 2 → code_target image o n a bytes ≡ None
unfolding operand_target
code-short image None n a bytes short = refl
code-short image (Some op) n a bytes short = grind (arith, eqb-true)

entry-short : (m : MapView) (e : Entry) (n a : ℕ) (bytes : List ℕ) → n < 2 → entry_target m e n a bytes ≡ None
entry-short m Instruction n a bytes short = code-short m.image (decoded (opcodes m) (get_or bytes 0 0)) n a bytes short
entry-short m Address n a bytes short = let other : (n == 2) ≡ false = ne_eqb n 2 (λ is. absurd (omega (arith, is, short))) in rw other refl
entry-short m Return n a bytes short = let other : (n == 2) ≡ false = ne_eqb n 2 (λ is. absurd (omega (arith, is, short))) in rw other refl
entry-short m _ n a bytes short = refl

target-short : (m : MapView) (r : RangeType) (n a : ℕ) (bytes : List ℕ) → n < 2 → target_for m r n a bytes ≡ None
unfolding target_for
target-short m r n a bytes short = entry-short m (layout_of r).entry n a bytes short

pub short_at : (m : MapView) (a : ℕ) → item_len m a < 2 → target_at m a ≡ None
unfolding target_at
short_at m a short = target-short m (role_of m.info a) (item_len m a) a (bytes_from m.image a) short
