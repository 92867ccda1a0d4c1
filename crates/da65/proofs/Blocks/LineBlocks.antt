-- Single lines of a listing with names, and lines that say nothing of names and bytes.
use Rattle.std.proofs.Common.{◌≡◌, ℕ, Bool, true, false, eqb, ◌+◌, ◌<◌, ◌≤◌, List, ◌∷◌, ◌++◌, length, Option, Some, None, refl, arith, []}
use Rattle.std.specs.Prelude.{◌||◌, nat_lt}
use Rattle.std.specs.List.{list_any}
use Rattle.std.proofs.lemmas.Bool.{le-ltb}
use Rattle.std.proofs.lemmas.List.{append-nil}
use Rattle.isa65.specs.Words.{cpu_text}
use Rattle.isa65.proofs.CpuNames.{cpu_name}
use Rattle.da65.specs.Words.{AreSound, Cpu, Knows, KnowsAll, ListingLine, AddressNames, definition_of, is_base, plain, segment_statement, separator, with_empty_line}
use Rattle.stmt65.specs.Views as view
use Rattle.stmt65.specs.Words.{Code, Definition, Nothing, Operation, Segment, SetCpu, SourceLine, State, Statement, coded, coding, cpu_after, defined_by, final, find_name, has_unknown_cpu, is_past_start, is_twice, operation_in, source_line, with_label}
use Rattle.map65.specs.Words.{ImageView, MapView, segment_at}
use Rattle.da65.proofs.Blocks.EachLine.{Each, HoldsBeside}
use Rattle.da65.proofs.Blocks.Knowledge.{knows_found, knows_more}
use Rattle.da65.proofs.Blocks.LineLaws.{Gives, Point, gives_append, gives_none, point, state}
use Rattle.da65.proofs.Statements.FragmentLaws.{no_fragments}
use Rattle.da65.proofs.Statements.StandsLaws.{Stands, StandsTo, after_is, bytes_are, no_fault}

-- the line reads so
abbrev pub Says : ListingLine → SourceLine → Type 0
Says l source = with_label l.label (source_line l.statement) ≡ source

-- the line defines what is new, in the address space; then these bases are known
pub record Defines (m : AddressNames) (s : State) (source : SourceLine) (knows : ℕ → Bool) : Type 0 where
  pub known : Knows m knows (s.above ++ defined_by s.at source)
  pub new : is_twice s source ≡ false
  pub in_space : list_any (λ d. nat_lt 65535 d.value) (defined_by s.at source) ≡ false

-- a line whose operation stands
pub line_gives : (m : AddressNames) (p : Point) (l : ListingLine) (source : SourceLine) (bytes : List ℕ) (at : ℕ) (cpu : Cpu) (knows : ℕ → Bool) → Says l source
    → ((above : List Definition) → Knows m p.knows above → StandsTo (λ all. KnowsAll m all) (state p above) (operation_in source) cpu bytes)
    → ((above : List Definition) → Knows m p.knows above → Defines m (state p above) source knows)
    → p.at + length bytes ≡ at → at ≤ 65536 → Gives m p (l ∷ []) bytes (point at cpu knows)
unfolding final coded
line_gives m p l source bytes at cpu knows says stands defines next room = grind (arith, after_is, no_fault, bytes_are, append-nil)

-- ---- what a line defines

-- a line with an operation and no label
pub defines_nothing : (m : AddressNames) (s : State) (o : Operation) (knows : ℕ → Bool) → Knows m knows s.above → Defines m s (Statement None o) knows
unfolding is_twice defined_by
defines_nothing m s o knows known = record { known = rw (append-nil s.above) known; new = refl; in_space = refl }

-- a line that defines a base which is not known before
pub base_gives : (image : ImageView) (m : AddressNames) (p : Point) (l : ListingLine) (source : SourceLine) (bytes : List ℕ) (at u : ℕ) → AreSound image m → Says l source
    → ((above : List Definition) → Knows m p.knows above → Stands (λ all. KnowsAll m all) (state p above) (operation_in source) bytes)
    → is_base m u ≡ true → p.knows u ≡ false → defined_by p.at source ≡ definition_of m u ∷ [] → p.at + length bytes ≡ at → at ≤ 65536
    → Gives m p (l ∷ []) bytes (point at p.cpu (λ v. p.knows v || eqb u v))
unfolding is_twice
base_gives image m p l source bytes at u names says stands base new e next room =
    let space : u < 65536 = names.in_space u base in
    line_gives m p l source bytes at p.cpu _ says stands
    (λ above known. record {
      known = rw e (knows_more image m p.knows above u names known base new);
      new = rw (e, knows_found m p.knows above u false known base new) refl;
      in_space = rw (e, le-ltb 65535 u (omega arith)) refl;
    })
    next room

-- ---- lines that say nothing of names and bytes

pub nothing_stands : (Full : List Definition → Type 0) (s : State) → Stands Full s Nothing []
unfolding has_unknown_cpu cpu_after coding is_past_start
nothing_stands Full s = record { fragments = []; known_cpu = refl; next_cpu = refl; coded = refl; starts = refl; gives = no_fragments Full (s.at + 0) }

pub record IsQuiet (l : ListingLine) : Type 0 where
  pub operation : Operation
  pub says : Says l (Statement None operation)
  pub known_cpu : has_unknown_cpu operation ≡ false
  pub same_cpu : (cpu : Cpu) → cpu_after cpu operation ≡ cpu
  pub coded : (p : Point) (above : List Definition) → coding (state p above) operation ≡ Some []
  pub starts : (p : Point) (above : List Definition) → is_past_start (state p above) operation ≡ false

pub quiet_blank : IsQuiet (plain view.blank)
unfolding has_unknown_cpu cpu_after coding is_past_start
quiet_blank = record { operation = Nothing; says = refl; known_cpu = refl; same_cpu = λ cpu. refl; coded = λ p above. refl; starts = λ p above. refl }

pub quiet_remark : (text : List ℕ) → IsQuiet (plain (view.remark text))
unfolding has_unknown_cpu cpu_after coding is_past_start
quiet_remark text = record { operation = Nothing; says = refl; known_cpu = refl; same_cpu = λ cpu. refl; coded = λ p above. refl; starts = λ p above. refl }

quiet_segment : (o : Option (List ℕ)) → IsQuiet (plain (segment_statement o))
unfolding has_unknown_cpu cpu_after coding is_past_start find_name
quiet_segment None = record { operation = Code; says = refl; known_cpu = refl; same_cpu = λ cpu. refl; coded = λ p above. refl; starts = λ p above. refl }
quiet_segment (Some name) = record { operation = Segment name; says = refl; known_cpu = refl; same_cpu = λ cpu. refl; coded = λ p above. refl; starts = λ p above. refl }

pub quiet_beside : (m : MapView) → HoldsBeside m IsQuiet
unfolding separator
quiet_beside m = record { blank = quiet_blank; separates = quiet_remark _; enters = λ a. quiet_segment (segment_at m a); comment = λ a text e. quiet_remark text }

pub quiet_gives : (m : AddressNames) (at : ℕ) (cpu : Cpu) (knows : ℕ → Bool) (ls : List ListingLine) → Each IsQuiet ls → at ≤ 65536 → Gives m (point at cpu knows) ls [] (point at cpu knows)
quiet_gives m at cpu knows [] quiet room = gives_none m (point at cpu knows)
quiet_gives m at cpu knows (l ∷ ls) quiet room =
    gives_append (l ∷ []) ls
    (line_gives m (point at cpu knows) l (Statement None quiet.0.operation) [] at cpu knows quiet.0.says (λ above known. record { fragments = []; known_cpu = quiet.0.known_cpu; next_cpu = quiet.0.same_cpu cpu; coded = quiet.0.coded (point at cpu knows) above; starts = quiet.0.starts (point at cpu knows) above; gives = no_fragments _ _ }) (λ above known. defines_nothing m _ _ knows known) (omega arith) room)
    (quiet_gives m at cpu knows ls quiet.1 room)

-- with an empty line after the last
pub empty_line_gives : (m : AddressNames) (p : Point) (ls : List ListingLine) (at : ℕ) (cpu : Cpu) (knows : ℕ → Bool) → at ≤ 65536 → Gives m p ls [] (point at cpu knows) → Gives m p (with_empty_line ls) [] (point at cpu knows)
empty_line_gives m p [] at cpu knows room h = h
empty_line_gives m p (l ∷ ls) at cpu knows room h = gives_append (l ∷ ls) (plain view.blank ∷ []) h (quiet_gives m at cpu knows (plain view.blank ∷ []) (quiet_blank, tt) room)

-- ---- `.setcpu`

pub cpu_gives : (m : AddressNames) (at : ℕ) (old cpu : Cpu) (knows : ℕ → Bool) → at ≤ 65536 → Gives m (point at old knows) (plain (view.set_cpu cpu) ∷ []) [] (point at cpu knows)
unfolding has_unknown_cpu cpu_after coding is_past_start
cpu_gives m at old cpu knows room =
    line_gives m (point at old knows) (plain (view.set_cpu cpu)) (Statement None (SetCpu (cpu_text cpu))) [] at cpu knows refl (λ above known. record { fragments = []; known_cpu = rw ((cpu_name cpu).named) refl; next_cpu = rw ((cpu_name cpu).named) refl; coded = refl; starts = refl; gives = no_fragments _ _ }) (λ above known. defines_nothing m _ _ knows known) (omega arith) room
