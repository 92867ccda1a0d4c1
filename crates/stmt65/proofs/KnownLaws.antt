-- What a pass over a text whose names are known has done, line after line.
use Rattle.std.proofs.Common.{◌≡◌, ℕ, ◌<◌, List, [], ◌∷◌, length, take, Some, refl}
use Rattle.std.specs.Prelude.{Ok}
use Rattle.std.proofs.Math.Seq.{take-length}
use Rattle.text65.specs.Lines.{text_lines}
use Rattle.stmt65.specs.Words.{Definition, Follows, Source, SourceLine, State, held_coded, held_final, parts, reading_of, readings, source_meaning, source_readings, source_state, with_front}
use Rattle.stmt65.proofs.HeldLemmas.{definitions_held, meaning_held}
use Rattle.stmt65.proofs.PassLaws.{front-end, front-front, front-nil}
use Rattle.std.proofs.Common.{arith}

-- before a line: what the lines below bring, and what comes of all lines
pub record Known {L : Type 0} (source : Source L) (all : List Definition) (s : State) (text out : List ℕ) : Type 0 where
  pub n : ℕ
  pub state : held_final s (readings source.language text) ≡ held_final (source_state source) (source_readings source)
  pub bytes : with_front out (held_coded all n s (readings source.language text)) ≡ held_coded all 1 (source_state source) (source_readings source)

pub known_start : {L : Type 0} (source : Source L) (all : List Definition) (s : State) → s ≡ source_state source → Known source all s source.text.now []
known_start source all s e = record {
  n = 1;
  state = rw e refl;
  bytes = rw e (front-nil (held_coded all 1 (source_state source) (source_readings source)));
}

pub known_next : {L : Type 0} (source : Source L) (all : List Definition) (s below : State) (text line rest old new : List ℕ) (said : SourceLine) → Known source all s text old
    → text_lines text ≡ line ∷ text_lines rest → Some said ≡ reading_of source.language (parts source.language line) → Follows all s below said old new → Known source all below rest new
unfolding held_final held_coded
known_next source all s below text line rest old new said h e r f = grind (arith, front-front)

-- where all of the names stand above
pub known_end : {L : Type 0} (source : Source L) (all : List Definition) (n : ℕ) (s : State) (text out : List ℕ) → source.start < 65536 → Known source all s text out → text_lines text ≡ []
    → s.above ≡ take n all → n ≡ length all → source_meaning source ≡ Ok out
unfolding held_final held_coded
known_end source all n s text out small h e above count = grind (arith, take-length, definitions_held, meaning_held, front-end)

pub ruleset knows = (known_start, known_next)
