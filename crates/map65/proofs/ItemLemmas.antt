-- Items, byte by byte.
use Rattle.std.proofs.Common.{◌≡◌, ◌≢◌, ◌∙◌, ℕ, zero, suc, ◌+◌, ◌-◌, ◌<◌, ◌≤◌, ◌&&◌, ◌==◌, not, Bool, true, false, length, Option, Some, None, refl, ap, sym, arith, ⊎_elim}
use Rattle.std.proofs.lemmas.Bool.{false≢true, and_parts, and_from, cases_eq, cases_lt, cond-true, cond-false, cond_both, eq-eqb, false_from_ne_true, ne_eqb, lt-ltb, le-leb, not-true}
use Rattle.isa65.proofs.ModeLaws.{len-positive, len-small}
use Rattle.map65.specs.Words.{AreOnePiece, AreOneRun, Code, MapView, Op, RangeType, Skip, are_joined, byte_at, code_size, end_of, full_len_at, is_border, is_in_run, is_inside, is_joined, is_own, is_skip, is_wide, item_len, item_start, left_at, opcodes, role_of, size_at, size_for}
use Rattle.isa65.specs.Words.{decoded}

-- ---- pieces

-- what is known of an address of a run after its first
pub record InRun (m : MapView) (a : ℕ) : Type 0 where
  pub low : m.image.start < a
  pub high : a < end_of m.image
  pub same : role_of m.info (a - 1) ≡ role_of m.info a
  pub unbroken : is_border m.info.segments a ≡ false

pub in-run : (m : MapView) (a : ℕ) → is_in_run m a ≡ true → InRun m a
unfolding is_in_run
in-run m a is = grind (arith, and_parts)

pub run-if : (m : MapView) (a : ℕ) → InRun m a → is_in_run m a ≡ true
unfolding is_in_run
run-if m a here = grind arith

-- a given name cuts the run before the address
abbrev pub is_cut_at : MapView → ℕ → Bool
is_cut_at m a = is_wide (role_of m.info a) && is_own m.info.names a

pub joined-run : (m : MapView) (a : ℕ) → is_joined m a ≡ true → is_in_run m a ≡ true
unfolding is_joined
joined-run m a is = (and_parts (is_in_run m a) (not (is_cut_at m a)) is).0

pub joined-uncut : (m : MapView) (a : ℕ) → is_joined m a ≡ true → is_cut_at m a ≡ false
unfolding is_joined
joined-uncut m a is = not-true (is_cut_at m a) (and_parts (is_in_run m a) (not (is_cut_at m a)) is).1

pub joined-if : (m : MapView) (a : ℕ) → is_in_run m a ≡ true → is_cut_at m a ≡ false → is_joined m a ≡ true
unfolding is_joined
joined-if m a run uncut = and_from _ _ run (ap not uncut)

pub joined-in : (m : MapView) (a : ℕ) → is_joined m a ≡ true → InRun m a
joined-in m a is = in-run m a (joined-run m a is)

pub joined_high : (m : MapView) (a : ℕ) → is_joined m a ≡ true → a < end_of m.image
joined_high m a is = (joined-in m a is).high

-- addresses that are joined one by one lie in one piece
pub joined-piece : (m : MapView) (n a : ℕ) → are_joined m n a ≡ true → AreOnePiece m a (a + n)
unfolding are_joined
joined-piece m zero a are x low high = absurd (omega arith)
joined-piece m (suc n) a are x low high =
    let parts = and_parts (is_joined m (a + 1)) (are_joined m n (a + 1)) are in
    ⊎_elim
    (λ next. ap (is_joined m) next ∙ parts.0)
    (λ other. joined-piece m n (a + 1) parts.1 x (omega (arith, other)) (omega arith))
    (cases_eq x (a + 1))

run-after : {X : Type 0} (m : MapView) (f : ℕ → X) → ((a : ℕ) → InRun m a → f (a - 1) ≡ f a) → (n b : ℕ) → AreOneRun m b (b + n) → f (b + n) ≡ f b
run-after m f same zero b run = let place : b + 0 ≡ b = omega arith in ap f place
run-after m f same (suc n) b run =
    let place : b + suc n - 1 ≡ b + n = omega arith in
    sym (same (b + suc n) (in-run m (b + suc n) (run (b + suc n) (omega arith) (omega arith)))) ∙ ap f place ∙ run-after m f same n b (λ x low high. run x low (omega arith))

-- what each address of a run has in common with the one before it, all have in common
pub one-run : {X : Type 0} (m : MapView) (f : ℕ → X) → ((a : ℕ) → InRun m a → f (a - 1) ≡ f a) → (b a : ℕ) → AreOneRun m b a → (x : ℕ) → b ≤ x → x ≤ a → f x ≡ f b
one-run m f same b a run x low high =
    let place : x ≡ b + (x - b) = omega arith in
    ap f place ∙ run-after m f same (x - b) b (λ y above upto. run y above (omega arith))

-- a run has one role
pub one-run-role : (m : MapView) (b a : ℕ) → b ≤ a → AreOneRun m b a → role_of m.info a ≡ role_of m.info b
one-run-role m b a le run = one-run m (role_of m.info) (λ x here. here.same) b a run a le (omega arith)

-- and so has a piece
pub one-role : (m : MapView) (b a : ℕ) → b ≤ a → AreOnePiece m b a → role_of m.info a ≡ role_of m.info b
one-role m b a le piece = one-run-role m b a le (λ x low high. joined-run m x (piece x low high))

-- ---- sizes

-- an item has one to four bytes
abbrev pub IsSize : ℕ → Type 0
IsSize n = (1 ≤ n) × (n ≤ 4)

code_size-is : (o : Option Op) → IsSize (code_size o)
code_size-is None = (omega arith, omega arith)
code_size-is (Some op) = (len-positive op.mode, omega (arith, len-small op.mode))

size_for-is : (m : MapView) (r : RangeType) (b : ℕ) → IsSize (size_for m r b)
size_for-is m Code b = code_size-is (decoded (opcodes m) b)
size_for-is m _ b = (omega arith, omega arith)

size_for-skip : (m : MapView) (r : RangeType) (b : ℕ) → is_skip r ≡ true → size_for m r b ≡ 1
size_for-skip m Skip b is = refl
size_for-skip m _ b is = absurd (false≢true is)

pub full_len-is : (m : MapView) (a : ℕ) → IsSize (full_len_at m a)
unfolding full_len_at
full_len-is m a = size_for-is m (role_of m.info a) (byte_at m.image a)

pub size-is : (m : MapView) (a : ℕ) → IsSize (size_at m a)
unfolding size_at
size-is m a = cond_both (are_joined m (full_len_at m a - 1) a) (full_len_at m a) 1 IsSize (λ _. full_len-is m a) (λ _. (omega arith, omega arith))

pub size-positive : (m : MapView) (a : ℕ) → 1 ≤ size_at m a
size-positive m a = (size-is m a).0

pub one-size : (m : MapView) (a : ℕ) → full_len_at m a ≡ 1 → size_at m a ≡ 1
unfolding size_at
one-size m a one = cond_both (are_joined m (full_len_at m a - 1) a) (full_len_at m a) 1 (λ n. n ≡ 1) (λ _. one) (λ _. refl)

pub skip-size : (m : MapView) (a : ℕ) → is_skip (role_of m.info a) ≡ true → size_at m a ≡ 1
unfolding full_len_at
skip-size m a skip = one-size m a (size_for-skip m (role_of m.info a) (byte_at m.image a) skip)

size-joined : (m : MapView) (a : ℕ) → are_joined m (size_at m a - 1) a ≡ true
unfolding size_at are_joined
size-joined m a = grind arith

-- the bytes of an item lie in one piece
pub size-one-piece : (m : MapView) (a : ℕ) → AreOnePiece m a (a + size_at m a - 1)
size-one-piece m a x low high = joined-piece m (size_at m a - 1) a (size-joined m a) x low (omega (arith, size-positive m a))

-- an item that begins in the image ends there
pub size-fits : (m : MapView) (k : ℕ) → k < length m.image.bytes → k + size_at m (m.image.start + k) ≤ length m.image.bytes
size-fits m k inside =
    let a : ℕ = m.image.start + k in
    let some : 1 ≤ size_at m a = size-positive m a in
    ⊎_elim
    (λ one. omega (arith, one))
    (λ more.
    let last : ℕ = a + size_at m a - 1 in
    omega (arith, joined_high m last (size-one-piece m a last (omega (arith, more, some)) (omega arith)), some))
    (cases_eq (size_at m a) 1)

-- ---- how many bytes are left of a span

pub left-first : (size : ℕ → ℕ) (start : ℕ) → left_at size start 0 ≡ 0
unfolding left_at
left-first size start = refl

-- at its first byte
pub left-begun : (size : ℕ → ℕ) (start k : ℕ) → left_at size start k ≡ 0 → left_at size start (suc k) ≡ size (start + k) - 1
unfolding left_at
left-begun size start k none = cond-true (left_at size start k == 0) _ _ (eq-eqb (left_at size start k) 0 none)

-- at a further byte
pub left-going : (size : ℕ → ℕ) (start k : ℕ) → left_at size start k ≢ 0 → left_at size start (suc k) ≡ left_at size start k - 1
unfolding left_at
left-going size start k some = cond-false (left_at size start k == 0) _ _ (ne_eqb (left_at size start k) 0 some)

-- after the first byte of a span its bytes count down
pub left-inside : (size : ℕ → ℕ) (start k i : ℕ) → left_at size start k ≡ 0 → i < size (start + k) → left_at size start (suc k + i) ≡ size (start + k) - 1 - i
left-inside size start k zero none within =
    let place : suc k + 0 ≡ suc k = omega arith in
    ap (left_at size start) place ∙ left-begun size start k none ∙ omega arith
left-inside size start k (suc i) none within =
    let before = left-inside size start k i none (omega arith) in
    let place : suc k + suc i ≡ suc (suc k + i) = omega arith in
    ap (left_at size start) place ∙ left-going size start (suc k + i) (omega (arith, before)) ∙ omega (arith, before)

-- ---- where an item begins

item_start-zero : (m : MapView) → item_start m 0 ≡ 0
unfolding item_start
item_start-zero m = refl

pub item_start-apart : (m : MapView) (a : ℕ) → is_joined m a ≡ false → item_start m a ≡ a
unfolding item_start
item_start-apart m zero apart = refl
item_start-apart m (suc a) apart = cond-false (is_joined m (suc a)) _ _ apart

-- where the item before ends
item_start-past : (m : MapView) (a : ℕ) → item_start m a + size_at m (item_start m a) ≤ suc a → item_start m (suc a) ≡ suc a
unfolding item_start
item_start-past m a past = grind arith

-- at a further byte
pub item_start-further : (m : MapView) (a : ℕ) → suc a < item_start m a + size_at m (item_start m a) → is_joined m (suc a) ≡ true → item_start m (suc a) ≡ item_start m a
unfolding item_start
item_start-further m a below joined = cond-true (is_joined m (suc a)) _ _ joined ∙ cond-true _ _ _ (lt-ltb (suc a) _ below)

-- every byte of an item begins where its first does
pub item_start-inside : (m : MapView) (n i : ℕ) → item_start m n ≡ n → i < size_at m n → item_start m (n + i) ≡ n
item_start-inside m n zero own within = let place : n + 0 ≡ n = omega arith in ap (item_start m) place ∙ own
item_start-inside m n (suc i) own within =
    let before = item_start-inside m n i own (omega arith) in
    let place : n + suc i ≡ suc (n + i) = omega arith in
    let size : size_at m (item_start m (n + i)) ≡ size_at m n = ap (size_at m) before in
    ap (item_start m) place
    ∙ item_start-further m (n + i) (omega (arith, before, size)) (size-one-piece m n (suc (n + i)) (omega arith) (omega arith))
    ∙ before

pub item_start-within : (m : MapView) (n a : ℕ) → item_start m n ≡ n → n ≤ a → a < n + size_at m n → item_start m a ≡ n
item_start-within m n a own low high =
    let place : n + (a - n) ≡ a = omega (arith, low) in
    sym (ap (item_start m) place) ∙ item_start-inside m n (a - n) own (omega (arith, low, high))

-- and where an item ends the next one begins
pub item_start-after : (m : MapView) (n : ℕ) → item_start m n ≡ n → item_start m (n + size_at m n) ≡ n + size_at m n
item_start-after m n own =
    let some : 1 ≤ size_at m n = size-positive m n in
    let before = item_start-inside m n (size_at m n - 1) own (omega arith) in
    let place : n + size_at m n ≡ suc (n + (size_at m n - 1)) = omega arith in
    let size : size_at m (item_start m (n + (size_at m n - 1))) ≡ size_at m n = ap (size_at m) before in
    ap (item_start m) place ∙ item_start-past m (n + (size_at m n - 1)) (omega (arith, before, size)) ∙ sym place

-- what is known of the item that an address belongs to
pub record Belongs (m : MapView) (a : ℕ) : Type 0 where
  pub low : item_start m a ≤ a
  pub high : a < item_start m a + size_at m (item_start m a)
  pub own : item_start m (item_start m a) ≡ item_start m a

own-belongs : (m : MapView) (a : ℕ) → item_start m a ≡ a → Belongs m a
own-belongs m a own = record { low = omega (arith, own); high = omega (arith, own, size-positive m (item_start m a)); own = ap (item_start m) own }

pub belongs : (m : MapView) (a : ℕ) → Belongs m a
belongs m zero = own-belongs m 0 (item_start-zero m)
belongs m (suc a) =
    let before = belongs m a in
    ⊎_elim
    (λ over.
    let joined = size-one-piece m (item_start m a) (suc a) (omega (arith, before.low)) (omega (arith, over)) in
    let same = item_start-further m a over joined in
    let size : size_at m (item_start m (suc a)) ≡ size_at m (item_start m a) = ap (size_at m) same in
    record { low = omega (arith, same, before.low); high = omega (arith, same, size, over); own = ap (item_start m) same ∙ before.own ∙ sym same })
    (λ past. own-belongs m (suc a) (item_start-past m a past))
    (cases_lt (suc a) (item_start m a + size_at m (item_start m a)))

-- the bytes from there on lie in one piece
pub start-piece : (m : MapView) (a : ℕ) → AreOnePiece m (item_start m a) a
start-piece m a x low high = size-one-piece m (item_start m a) x low (omega (arith, high, (belongs m a).high))

-- ---- items

pub inside-if : (m : MapView) (a : ℕ) → m.image.start ≤ a → a < end_of m.image → is_inside m.image a ≡ true
inside-if m a low high = and_from _ _ (le-leb m.image.start a low) (lt-ltb a (end_of m.image) high)

-- an address of the image
pub record IsWithin (m : MapView) (a : ℕ) : Type 0 where
  pub low : m.image.start ≤ a
  pub high : a < end_of m.image

pub within : (m : MapView) (a : ℕ) → is_inside m.image a ≡ true → IsWithin m a
within m a inside = grind arith

pub inside-index : (m : MapView) (k : ℕ) → k < length m.image.bytes → is_inside m.image (m.image.start + k) ≡ true
inside-index m k low = and_from _ _ (le-leb m.image.start (m.image.start + k) (omega arith)) (lt-ltb (m.image.start + k) (end_of m.image) (omega arith))

pub item-len-own : (m : MapView) (a : ℕ) → is_inside m.image a ≡ true → is_skip (role_of m.info a) ≡ false → item_start m a ≡ a → item_len m a ≡ size_at m a
unfolding item_len
item-len-own m a inside shown own = cond-true _ _ _ (and_from _ _ inside (and_from _ _ (ap not shown) (eq-eqb (item_start m a) a own)))

-- the image begins with a piece
pub start-apart : (m : MapView) (a : ℕ) → a ≡ m.image.start → is_joined m a ≡ false
start-apart m a is = false_from_ne_true (is_joined m a) (λ joined. absurd (omega (arith, is, (joined-in m a joined).low)))

pub start-own : (m : MapView) → item_start m (m.image.start + 0) ≡ m.image.start + 0
start-own m = item_start-apart m (m.image.start + 0) (start-apart m (m.image.start + 0) (omega arith))

pub item-len-at : (m : MapView) (k : ℕ) → k < length m.image.bytes → is_skip (role_of m.info (m.image.start + k)) ≡ false → item_start m (m.image.start + k) ≡ m.image.start + k → item_len m (m.image.start + k) ≡ size_at m (m.image.start + k)
item-len-at m k low shown own = item-len-own m (m.image.start + k) (inside-index m k low) shown own
