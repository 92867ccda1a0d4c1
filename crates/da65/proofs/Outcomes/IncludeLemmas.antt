-- Preparing a run: its information file, and then one include file after the other.
use Rattle.std.proofs.Common.{arith, ◌≡◌, ◌∙◌, ◌<◌, ◌≤◌, ◌+◌, ℕ, List, get_or, length, ap, drop, drop-cons, refl}
use Rattle.std.proofs.lemmas.List.{drop_all, get_or_default}
use Rattle.std.specs.Prelude.{None, Ok, Option, Result, Some, String, is_some, true}
use Rattle.info65.specs.Words.{Gives, IncludeView, InfoView, blank_include, name_seen}
use Rattle.da65.specs.Words.{FileView, InfoFault, Stop, Stops, info_message, listed_by, or_message, prepared_by, with_all_includes, with_file, with_includes, with_input, ◌>>=◌}
use Rattle.da65.specs.declared.runs.preparing.Stop.TheVariants.{Memory, Refused}

-- ---- one include file after the other

-- the include file at an index
abbrev pub include_at : InfoView → ℕ → IncludeView
include_at i k = get_or i.includes k blank_include

pub is_at : (i : InfoView) (k : ℕ) → k < length i.includes → include_at i k ≡ get_or i.includes k (include_at i k)
is_at i k h = get_or_default i.includes k blank_include (include_at i k) h

-- it comes first of those from that index on
comes_first : (fs : List FileView) (k : ℕ) (i : InfoView) → k < length i.includes
    → with_includes fs k (drop k i.includes) i ≡ (with_file fs k (include_at i k) i >>= with_includes fs (k + 1) (drop (k + 1) i.includes))
unfolding with_includes
comes_first fs k i h = grind (arith, drop-cons)

-- its names were added
pub included_on : (fs : List FileView) (k : ℕ) (i j : InfoView) → k < length i.includes → j.includes ≡ i.includes → with_file fs k (include_at i k) i ≡ Ok j
    → with_includes fs (k + 1) (drop (k + 1) j.includes) j ≡ with_includes fs k (drop k i.includes) i
included_on fs k i j h e is = grind (arith, comes_first)

-- the run ends with it
pub stops_at : (stop : Stop) (fs : List FileView) (k : ℕ) (i : InfoView) → k < length i.includes → Stops stop (with_file fs k (include_at i k) i) → Stops stop (with_includes fs k (drop k i.includes) i)
stops_at (Refused message) fs k i h is = comes_first fs k i h ∙ ap (λ (r : Result InfoView (List ℕ)). r >>= with_includes fs (k + 1) (drop (k + 1) i.includes)) is
stops_at Memory fs k i h is = tt

-- none is left
pub all_included : (fs : List FileView) (k : ℕ) (i : InfoView) → length i.includes ≤ k → with_includes fs k (drop k i.includes) i ≡ Ok i
unfolding with_includes
all_included fs k i h = ap (λ (xs : List IncludeView). with_includes fs k xs i) (drop_all k i.includes h)

-- a name is there for a contract as it is there for the code
pub seen_alike : {Z : Type 0} (name : Option (String Z)) → is_some (name_seen name) ≡ is_some name
seen_alike (Some name) = refl
seen_alike None = refl

-- there is none
pub all_of_none : (fs : List FileView) (i : InfoView) → is_some i.settings.input ≡ true → length i.includes ≡ 0 → listed_by fs i ≡ Ok i
all_of_none fs i named none = rw named (all_included fs 0 i (omega (arith, none)))

-- ---- the information file

-- it was accepted
pub listed_as : (fs : List FileView) (i : InfoView) (read defined : Result InfoView InfoFault) → read ≡ Ok i → Gives (λ x. x) read defined → prepared_by defined fs ≡ listed_by fs i
unfolding prepared_by
listed_as fs i read defined is gives = rw (rw is at gives) refl

-- it was refused
pub stops_first : (stop : Stop) (fs : List FileView) (defined : Result InfoView InfoFault) → Stops stop (or_message info_message defined) → Stops stop (prepared_by defined fs)
unfolding prepared_by
stops_first (Refused message) fs defined is = ap (λ (r : Result InfoView (List ℕ)). r >>= with_input >>= with_all_includes fs) is
stops_first Memory fs defined is = tt
