-- What contracts know of a reader or a writer: its bytes, if it reports them, how many of its calls
-- failed, and whether the last read did.
use Rattle.std.specs.Prelude.{◌≡◌, ℕ, ◌+◌, ◌-◌, ◌^◌, ◌≤◌, nat_lt, Bool, true, false, min, List, ◌++◌, length, MatchResult, Option, Result}
use Rattle.std.specs.Io.KnownBytes.{Appends, Consumes}

-- a count of faults after one more; it stays at 2^64 - 1
abbrev pub one_more : ℕ → ℕ
one_more n = min (n + 1) (2 ^ 64 - 1)

-- a call failed while the count went from the first value to the second
abbrev pub has_failed : ℕ → ℕ → Bool
has_failed old new = nat_lt old new

-- the count rises by one exactly when the call failed
abbrev pub Counts : {T E : Type 0} → ℕ → ℕ → Result T E → Type 0
Counts old new r = MatchResult r (λ _. new ≡ old) (λ _. new ≡ one_more old)

-- the flag says whether the call failed
abbrev pub IsFailure : {T E : Type 0} → Bool → Result T E → Type 0
IsFailure failed r = MatchResult r (λ _. failed ≡ false) (λ _. failed ≡ true)

-- a prefix of a text was written, and `rest` is still to be written
pub record HasTaken (old new : Option (List ℕ)) (text rest : List ℕ) : Type 0 where
  pub front : List ℕ
  pub parts : text ≡ front ++ rest
  pub taken : Appends old new front

-- a prefix of a text was written; the whole text is one too
pub record AppendsFront (old new : Option (List ℕ)) (text : List ℕ) : Type 0 where
  pub rest : List ℕ
  pub front : HasTaken old new text rest

-- at most this many bytes were read
pub record TakesUpTo (limit : ℕ) (old new : Option (List ℕ)) : Type 0 where
  pub bytes : List ℕ
  pub bound : length bytes ≤ limit
  pub taken : Consumes old new bytes
