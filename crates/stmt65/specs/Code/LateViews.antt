-- What the work on lines stands for: those that are coded at once, and those that wait until all names are known.
use Rattle.std.specs.Prelude.{◌≡◌, ℕ, Bool, true, false, ◌+◌, ◌≤◌, ◌++◌, List, [], ◌∷◌, length, take, drop, if◌then◌else◌, Option, Some, None, is_some, IfNone, Result, Ok}
use Rattle.std.specs.Option.{option_map}
use Rattle.stmt65.specs.declared.assembling.assembler.Pass.{Pass}
use Rattle.stmt65.specs.declared.assembling.assembler.Source.{Source}
use Rattle.stmt65.specs.Types.{AsmFault, AsmFaultKind, Faulty, Late, Outcome, Settled, Waiting, Work}
use Rattle.stmt65.specs.SourceLine.{SourceLine}
use Rattle.stmt65.specs.Symbols.{Definition}
use Rattle.stmt65.specs.Layout.{Layout}
use Rattle.stmt65.specs.Coding.{State}
use Rattle.stmt65.specs.Meaning.{with_front}
use Rattle.stmt65.specs.Sources.{source_definitions, source_meaning}
use Rattle.stmt65.specs.Code.SourceLineViews.{source_of}
use Rattle.stmt65.specs.Code.MeaningViews.{Place, bytes_at, fault_at, held_after, held_definitions, line_in, line_then, place_in, state_of}

-- the fault of a line is found, or its bytes are added
pub record Codes (fault : Option AsmFaultKind) (all : List Definition) (line : Option Place) (old new : List ℕ) : Type 0 where
  pub finds : fault ≡ fault_at all line
  pub adds : IfNone fault (new ≡ old ++ bytes_at all line)

-- a line whose bytes are added without a fault, and the state below it
pub record Follows (all : List Definition) (s below : State) (source : SourceLine) (old new : List ℕ) : Type 0 where
  pub codes : Codes None all (Some (place_in s source)) old new
  pub state : below ≡ held_after s (Some source)

-- ---- late lines

abbrev pub said_of : {A : Type 0} → Late A → Option SourceLine
said_of l = option_map source_of l.source

-- what stands above a late line
abbrev pub late_state : {A : Type 0} → List Definition → Layout → Late A → State
late_state all layout l = record { at = l.address; cpu = l.cpu; above = take l.count all; layout = layout }

abbrev pub late_line : {A : Type 0} → List Definition → Layout → Late A → Option Place
late_line all layout l = line_in (late_state all layout l) (said_of l)

-- it is that state, in which as many definitions stand above the line
pub record IsOf {A : Type 0} (l : Late A) (s : State) : Type 0 where
  pub at : l.address ≡ s.at
  pub cpu : l.cpu ≡ s.cpu
  pub above : l.count ≡ length s.above

-- what comes of late lines by all names, where the bytes of other lines stand before each and after the last;
-- `rest` is what comes of the lines below
unfoldable pub coded_late : {A : Type 0} → List Definition → Layout → List (Late A) → List ℕ → Result (List ℕ) AsmFault → Result (List ℕ) AsmFault
coded_late all layout [] settled rest = with_front settled rest
coded_late all layout (l ∷ ls) settled rest = with_front (take l.front settled) (line_then all l.number (late_line all layout l) (coded_late all layout ls (drop l.front settled) rest))

-- how many bytes stand before the last of them
unfoldable pub fronts : {A : Type 0} → List (Late A) → ℕ
fronts [] = 0
fronts (l ∷ ls) = l.front + fronts ls

-- ---- work

-- what comes of the lines so far, with what comes of the lines below, of which none counts once the work is over
abbrev pub work_of : {A : Type 0} → List Definition → Layout → Work A → Result (List ℕ) AsmFault → Result (List ℕ) AsmFault
work_of all layout w rest = coded_late all layout w.late.items w.settled.items (if w.is_over then Ok [] else rest)

-- what comes of all lines
abbrev pub work_end : {A : Type 0} → List Definition → Layout → Work A → Result (List ℕ) AsmFault
work_end all layout w = coded_late all layout w.late.items w.settled.items (Ok [])

-- no line so far
pub record IsIdle {A : Type 0} (w : Work A) : Type 0 where
  pub settled : w.settled.items ≡ []
  pub late : w.late.items ≡ []
  pub mark : w.mark ≡ 0
  pub over : w.is_over ≡ false

-- the mark is where it should be
pub record IsSound {A : Type 0} (w : Work A) : Type 0 where
  pub mark : w.mark ≡ fronts w.late.items
  pub within : w.mark ≤ length w.settled.items

-- these definitions are the first of all
abbrev pub AreFirstOf : List Definition → List Definition → Type 0
AreFirstOf above all = take (length above) all ≡ above

-- line n is added to the work, whatever names stand below it
pub record Takes {A : Type 0} (p q : Work A) (n : ℕ) (layout : Layout) (above : List Definition) (line : Option Place) : Type 0 where
  pub sound : IsSound p → IsSound q
  pub same : IsSound p → (all : List Definition) (rest : Result (List ℕ) AsmFault) → AreFirstOf above all → work_of all layout q rest ≡ work_of all layout p (line_then all n line rest)

-- the line has a fault, whatever names stand below it
abbrev pub IsFaulty : List Definition → Option Place → Type 0
IsFaulty above line = (all : List Definition) → AreFirstOf above all → is_some (fault_at all line) ≡ true

-- a late line is added, whatever stands above it
abbrev pub Keeps : {A : Type 0} → Late A → Bool → Work A → Work A → Type 0
Keeps l is_faulty p q = (s : State) → IsOf l s → (is_faulty ≡ true → IsFaulty s.above (line_in s (said_of l))) → Takes p q l.number s.layout s.above (line_in s (said_of l))

-- the work is not over, and stays as it was
pub record IsLeft {A : Type 0} (p q : Work A) : Type 0 where
  pub settled : q.settled.items ≡ p.settled.items
  pub late : q.late ≡ p.late
  pub mark : q.mark ≡ p.mark
  pub before : p.is_over ≡ false
  pub over : q.is_over ≡ false

-- a line is added to the work, or it is to be kept and the work is as before
unfoldable pub Settles : {A : Type 0} → Work A → Work A → List Definition → Option Place → Outcome → Type 0
Settles p q above line Settled = (n : ℕ) (layout : Layout) → Takes p q n layout above line
Settles p q above line Waiting = IsLeft p q
Settles p q above line Faulty = IsLeft p q × IsFaulty above line

-- ---- passes

-- what stands above the next line
abbrev pub state_in : {A L : Type 0} → Pass A L → State
state_in p = state_of p.state p.names

-- the state is that below the line, which is added to the work or is to be kept
pub record PassesOver {A L : Type 0} (p q : Pass A L) (line : Option SourceLine) (outcome : Outcome) : Type 0 where
  pub state : state_in q ≡ held_after (state_in p) line
  pub work : Settles p.work q.work p.names (line_in (state_in p) line) outcome

-- the pass has gone on below line n
pub record GoesOn {A L : Type 0} (p q : Pass A L) (n : ℕ) (line : Option SourceLine) : Type 0 where
  pub state : state_in q ≡ held_after (state_in p) line
  pub work : Takes p.work q.work n p.state.layout.now p.names (line_in (state_in p) line)

-- Below all lines of a text, whose meaning comes of the work.
pub record IsPassed {A L M : Type 0} (p : Pass A L) (source : Source M) : Type 0 where
  pub names : p.names ≡ held_definitions (source_definitions source)
  pub means : source_meaning source ≡ work_end p.names p.state.layout.now p.work
