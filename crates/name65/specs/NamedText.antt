-- The text by names, beside the listing that it was.
use Rattle.std.specs.Prelude.{◌≡◌, ◌++◌, ℕ, ◌-◌, List, length, slice_get, Ok}
use Rattle.std.specs.Option.{unwrap_or}
use Rattle.text65.specs.Lines.{text_lines}
use Rattle.stmt65.specs.Words.{Layout, line_addresses, meaning_in, readings}
use Rattle.stmt65.specs.declared.language.Language.{Language}
use Rattle.stmt65.specs.declared.assembling.assembler.Source.{Source}
use Rattle.name65.specs.Changes.{LinesBecome}
use Rattle.name65.specs.Compared.{Scope}
use Rattle.name65.specs.Marks.{is_named}
use Rattle.name65.specs.declared.complaint.Refusal.{Refusal}
use Rattle.name65.specs.declared.complaint.Refusal.TheVariants as refusal
use Rattle.name65.specs.declared.failure.Refused.{Refused}
use Rattle.name65.specs.declared.failure.Refused.TheVariants.{Changed, Group}
use Rattle.name65.specs.declared.setup.Setup.{Setup}
use Rattle.files65.specs.declared.failure.Failure.{Failure}
use Rattle.files65.specs.declared.failure.Failure.TheVariants.{Memory, Own}

-- a text, its language, where its segments begin, and the address of its first byte
pub record Listing : Type 0 where
  pub language : Language
  pub layout : Layout
  pub start : ℕ
  pub text : List ℕ

abbrev pub listing_of : {L : Type 0} → Source L → Listing
listing_of s = record { language = s.language; layout = s.layout.now; start = s.start; text = s.text.now }

-- the address after each of its lines
abbrev pub addresses_of : Listing → List ℕ
addresses_of l = line_addresses l.layout l.start (readings l.language l.text)

-- the last address, or the start
abbrev pub last_in : ℕ → List ℕ → ℕ
last_in start ends = unwrap_or (slice_get ends (length ends - 1)) start

-- what decides how its lines change
abbrev pub scope_of : Listing → Setup → Scope
scope_of l setup = record { language = l.language; named = is_named setup.tags.now; used = setup.naming.now.used; last = last_in l.start (addresses_of l) }

-- Each line of a listing as it becomes, in order, by the address after each; and
-- after the last what moves there, in order.
pub record AreLines (l : Listing) (scope : Scope) (text : List ℕ) : Type 0 where
  pub lines : List ℕ
  pub tail : List ℕ
  pub become : LinesBecome scope l.start (text_lines l.text) (addresses_of l) lines tail
  pub whole : text ≡ lines ++ tail

-- so they are, by the groups
abbrev pub IsNamed : Listing → Setup → List ℕ → Type 0
IsNamed l setup text = AreLines l (scope_of l setup) text

-- The text means the bytes that the listing means.
pub record MeansTheSame (l : Listing) (text : List ℕ) : Type 0 where
  pub bytes : List ℕ
  pub before : meaning_in l.language l.layout l.start l.text ≡ Ok bytes
  pub after : meaning_in l.language l.layout l.start text ≡ Ok bytes

-- the failure for a refusal
abbrev pub failure_of : Refusal → Failure Refused
failure_of refusal.Memory = Memory
failure_of (refusal.Group line complaint) = Own (Group line complaint)
failure_of refusal.Changed = Own Changed
