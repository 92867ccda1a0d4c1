-- Where the parts of a line stand.
use Rattle.stmt65.specs.declared.reading.places.PlacedPart.{PlacedPart}
use Rattle.stmt65.specs.declared.reading.places.Span.{Span}
use Rattle.stmt65.specs.Code.PartViews.{part_of}
use Rattle.std.specs.Prelude.{if◌then◌else◌, ◌++◌, ◌-◌, ◌==◌, ◌∷◌, ◌≡◌, ◌≤◌, ◌||◌, Bool, List, Option, Some, [], drop, false, get_or, length, take, true, ℕ}
use Rattle.std.specs.List.{list_all}
use Rattle.stmt65.specs.Types.{Language, Listing, Repair, is_blank}
use Rattle.stmt65.specs.Names.{is_name}
use Rattle.stmt65.specs.Signs.{quote, star, plus, minus, colon, semicolon, equals}
use Rattle.stmt65.specs.Parts.{Part, Word, Number, Text, Define, Mark}
use Rattle.stmt65.specs.SourceLine.{Value, Datum, NumberDatum, StringDatum, ValueDatum, HalfDatum}
use Rattle.stmt65.specs.Lexing.{parts}
use Rattle.stmt65.specs.Reading.{next_value, whole, ◌>>=◌}

-- the bytes that a part is written with
abbrev pub part_text : Part → List ℕ
part_text (Word w) = w
part_text (Number t) = t
part_text (Text t) = quote ∷ (t ++ quote ∷ [])
part_text Define = colon ∷ equals ∷ []
part_text (Mark b) = b ∷ []

-- the bytes of a line from one place to before another
abbrev pub bytes_in : Span → List ℕ → List ℕ
bytes_in s line = take (s.to - s.from) (drop s.from line)

-- a line in a language, and how many bytes of it were passed over
pub record PlacesView : Type 0 where
  pub language : Language
  pub line : List ℕ
  pub at : ℕ

-- the parts that are left
abbrev pub parts_left : PlacesView → List Part
parts_left p = parts p.language (drop p.at p.line)

-- the same line, of which no less was passed over
pub record GoesOver (old new : PlacesView) : Type 0 where
  pub language : new.language ≡ old.language
  pub line : new.line ≡ old.line
  pub on : old.at ≤ new.at
  pub within : new.at ≤ length old.line

-- a place between what was passed over before and after
pub record IsAmong (s : Span) (old new : PlacesView) : Type 0 where
  pub from : old.at ≤ s.from
  pub some : s.from ≤ s.to
  pub to : s.to ≤ new.at

-- the bytes at its place are those that a part is written with
abbrev pub StandsIn : List ℕ → PlacedPart → Type 0
StandsIn line p = bytes_in p.span line ≡ part_text (part_of p.part)

-- a `;` stands there, and the place goes on to the end of the line
abbrev pub IsRemarkOf : List ℕ → Span → Type 0
IsRemarkOf line s = (s.to ≡ length line) × (get_or line s.from 0 ≡ semicolon)

-- a part with which an operand can begin: a string, a number, a name, or in a repair `*`
abbrev pub begins_operand : Language → Part → Bool
begins_operand language (Word w) = is_name w
begins_operand language (Number t) = true
begins_operand language (Text t) = true
begins_operand language Define = false
begins_operand Listing (Mark b) = false
begins_operand Repair (Mark b) = b == star

-- `+` or `-` and a number or a word, with which an expression goes on
abbrev pub goes_on : List Part → Bool
goes_on (Mark b ∷ Word w ∷ ps) = b == plus || b == minus
goes_on (Mark b ∷ Number t ∷ ps) = b == plus || b == minus
goes_on _ = false

-- a part stands from one place of a line to before another
pub record IsPart (language : Language) (line : List ℕ) (from to : ℕ) (p : Part) : Type 0 where
  pub text : take (to - from) (drop from line) ≡ part_text p
  pub reads : parts language (drop from line) ≡ p ∷ parts language (drop to line)

-- nothing but blanks stands from one place of a line to before another
pub record AreBlanks (line : List ℕ) (from to : ℕ) : Type 0 where
  pub on : from ≤ to
  pub blank : list_all is_blank (take (to - from) (drop from line)) ≡ true

-- an expression, if nothing is left after it
abbrev pub value_alone : Language → List Part → Option Value
value_alone language ps = next_value language ps >>= λ v. whole v.0 v.1

-- the bytes are the string, or are read as the expression and nothing else
abbrev pub ReadsAs : Language → List ℕ → Datum → Type 0
ReadsAs language bytes (NumberDatum n) = ⊥
ReadsAs language bytes (StringDatum t) = bytes ≡ part_text (Text t)
ReadsAs language bytes (ValueDatum v) = value_alone language (parts language bytes) ≡ Some v
ReadsAs language bytes (HalfDatum half v) = value_alone language (parts language bytes) ≡ Some v
