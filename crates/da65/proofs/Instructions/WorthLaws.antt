-- The bytes of fragments whose values are expressions.
use Rattle.std.proofs.Common.{◌≡◌, ℕ, ◌+◌, ◌*◌, ◌<◌, List, ◌∷◌, Some, refl, sym, ap, ◌∙◌, subst, length, ◌++◌, arith, []}
use Rattle.std.proofs.lemmas.Bool.{lt-ltb}
use Rattle.std.proofs.lemmas.List.Elements.{All-cons, All-nil}
use Rattle.da65.specs.Words.{Directive, LittleEndian}
use Rattle.stmt65.specs.Words.{Definition, Distance, Entry, Fragment, Value, ZeroPage, entry_in, entry_len, entry_limit, entry_number, fragment_bytes, fragment_fits, low_number, order_of, word_in}
use Rattle.stmt65.proofs.Public.{entry_size, bytes_back, number_fits}
use Rattle.map65.specs.Words.{AreBytes}
use Rattle.da65.proofs.Statements.FragmentLaws.{FragmentsGive, IsTarget, more_fragments, low_byte}
use Rattle.da65.proofs.Instructions.ValueLaws.{IsWorth}

-- for each table of which Full holds, this is its value
abbrev pub AlwaysWorth : (List Definition → Type 0) → Value → ℕ → Type 0
AlwaysWorth Full v n = (all : List Definition) → Full all → IsWorth all v n

word-in : (all : List Definition) (v : Value) (n : ℕ) → IsWorth all v n → n < 65536 → word_in all v ≡ Some n
unfolding word_in
word-in all v n is room = rw (is.value, lt-ltb n 65536 room) refl

pub zero_page_worth_gives : (Full : List Definition → Type 0) (next : ℕ) (v : Value) (n : ℕ) (fragments : List Fragment) (bytes : List ℕ) → AlwaysWorth Full v n → n < 256 → FragmentsGive Full next fragments bytes
    → FragmentsGive Full next (ZeroPage v ∷ fragments) (n ∷ bytes)
unfolding fragment_fits fragment_bytes
zero_page_worth_gives Full next v n fragments bytes is h rest =
    more_fragments Full next (ZeroPage v) fragments (n ∷ []) bytes refl (λ all full. (is all full).known)
    (λ all full. rw (word-in all v n (is all full) (omega arith), lt-ltb n 256 h) refl)
    (λ all full. rw (word-in all v n (is all full) (omega arith)) (ap (λ (b : ℕ). b ∷ []) (low_byte n h))) rest

entry-in : (all : List Definition) (d : Directive) (v : Value) (n : ℕ) → IsWorth all v n → n < entry_limit d → entry_in all d v ≡ Some n
unfolding entry_in
entry-in all d v n is room = rw (is.value, lt-ltb n (entry_limit d) room) refl

-- an expression that has the value of an entry
pub entry_worth_gives : (Full : List Definition → Type 0) (next : ℕ) (d : Directive) (v : Value) (entry : List ℕ) (fragments : List Fragment) (bytes : List ℕ) → AlwaysWorth Full v (entry_number d entry) → length entry ≡ entry_len d → AreBytes entry → FragmentsGive Full next fragments bytes
    → FragmentsGive Full next (Entry d v ∷ fragments) (entry ++ bytes)
unfolding fragment_fits fragment_bytes
entry_worth_gives Full next d v entry fragments bytes is long are rest =
    let room = number_fits d entry long are in
    more_fragments Full next (Entry d v) fragments entry bytes (entry_size d ∙ sym long) (λ all full. (is all full).known)
    (λ all full. rw (entry-in all d v (entry_number d entry) (is all full) room) refl)
    (λ all full. rw (entry-in all d v (entry_number d entry) (is all full) room) (bytes_back d entry long are)) rest

word_number : (d : Directive) (b c : ℕ) → order_of d ≡ LittleEndian → entry_number d (b ∷ c ∷ []) ≡ b + 256 * c
unfolding low_number
word_number d b c low = rw low (omega arith)

-- the same of an entry of two bytes, low byte first
pub word_worth_gives : (Full : List Definition → Type 0) (next : ℕ) (d : Directive) (v : Value) (b c : ℕ) (fragments : List Fragment) (bytes : List ℕ) → entry_len d ≡ 2 → order_of d ≡ LittleEndian
    → AlwaysWorth Full v (b + 256 * c) → b < 256 → c < 256 → FragmentsGive Full next fragments bytes → FragmentsGive Full next (Entry d v ∷ fragments) (b ∷ c ∷ bytes)
word_worth_gives Full next d v b c fragments bytes two low is h g rest =
    let bytes_are = All-cons (λ b. b < 256) b (c ∷ []) h (All-cons (λ b. b < 256) c [] g (All-nil (λ b. b < 256))) in
    entry_worth_gives Full next d v (b ∷ c ∷ []) fragments bytes (subst (AlwaysWorth Full v) (sym (word_number d b c low)) is) (sym two) bytes_are rest

pub distance_worth_gives : (Full : List Definition → Type 0) (next : ℕ) (v : Value) (b target : ℕ) (fragments : List Fragment) (bytes : List ℕ) → AlwaysWorth Full v target → IsTarget next b target → FragmentsGive Full next fragments bytes
    → FragmentsGive Full next (Distance v ∷ fragments) (b ∷ bytes)
unfolding fragment_fits fragment_bytes
distance_worth_gives Full next v b target fragments bytes worth is rest =
    more_fragments Full next (Distance v) fragments (b ∷ []) bytes refl (λ all full. (worth all full).known)
    (λ all full. rw (word-in all v target (worth all full) is.room) is.near)
    (λ all full. rw (word-in all v target (worth all full) is.room) (ap (λ (c : ℕ). c ∷ []) is.back)) rest
