-- What the parts of the reader return, against what is read of the whole.
use Rattle.std.specs.Prelude.{◌≡◌, Bool, true, false, List, Result, Ok, Err}
use Rattle.info65.specs.Code.Results.{Fails}
use Rattle.info65.specs.Groups.{GroupView}
use Rattle.info65.specs.Lexemes.{KindView, semicolon}
use Rattle.info65.specs.Reader.{Stage, closed, outside, read, read_token}
use Rattle.info65.specs.Tokens.{Stream, TokenView}
use Rattle.info65.specs.Views.{OptionsView}
use Rattle.info65.specs.Types.{InfoFault}

abbrev pub is_semicolon : KindView → Bool
is_semicolon semicolon = true
is_semicolon _ = false

-- where a reader stands between two groups
abbrev pub place_after : Bool → Stage
place_after true = closed
place_after false = outside

-- a part reads on to where `on` begins, or meets the first fault
abbrev pub Leads : {R X : Type 0} → Result R InfoFault → Result X InfoFault → (X → Result R InfoFault) → Type 0
Leads whole (Ok x) on = whole ≡ on x
Leads whole (Err e) on = whole ≡ Err e

-- the same for a part that takes memory
abbrev pub Grows : {R X : Type 0} → Result R InfoFault → Result X InfoFault → (X → Result R InfoFault) → Type 0
Grows whole (Ok x) on = whole ≡ on x
Grows whole (Err e) on = Fails e whole

-- ---- from one place of the reader to the next

-- under these options and after these groups, a part reads on from a place to where `next` is due
abbrev pub Moves : {X : Type 0} → OptionsView → List GroupView → Stage → Stream → Result X InfoFault → (X → Stage) → Stream → Type 0
Moves o before place old result next new = Leads (read o place before old) result (λ x. read o (next x) before new)

-- the same under all options, after any groups and to one place
abbrev pub Advances : {X : Type 0} → Stage → Stream → Result X InfoFault → Stage → Stream → Type 0
Advances place old result next new = (o : OptionsView) (before : List GroupView) → Moves o before place old result (λ x. next) new

-- a part takes this token, whatever comes after it
abbrev pub TakesToken : {X : Type 0} → List GroupView → Stage → TokenView → Result X InfoFault → (X → Stage) → Type 0
TakesToken before place t result next =
    (o : OptionsView) (rest : Stream) → Leads (read_token o place before t rest) result (λ x. read o (next x) before rest)

-- a part reads on to the end of a group, with which these are the groups
abbrev pub ReadsGroup : {X : Type 0} → OptionsView → Result (List GroupView) InfoFault → Result X InfoFault → List GroupView → Stream → Type 0
ReadsGroup o whole result groups new = Grows whole result (λ x. read o closed groups new)
