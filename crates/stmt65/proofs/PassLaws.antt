-- What a pass has done, line after line.
use Rattle.std.proofs.Common.{◌≡◌, ℕ, Bool, true, false, ltb, ◌+◌, ◌≤◌, List, [], ◌∷◌, ◌++◌, length, take, drop, get_or, ◌<◌, arith, length-append, Option, Some, None, refl, sym, ap, ◌∙◌, append_assoc}
use Rattle.std.specs.Prelude.{◌||◌, Result, Ok, Err, is_some}
use Rattle.std.proofs.Math.Seq.{take-append_seam, take-length}
use Rattle.std.proofs.lemmas.List.{append-nil, drop-append-le, drop_all, drop_more, length-drop, take-append-le, take_all}
use Rattle.stmt65.specs.Words.{AreFirstOf, AsmFault, AsmFaultKind, Codes, Definition, Fit, GoesOn, IsFaulty, IsIdle, IsLeft, IsOf, IsPassed, IsSound, Late, Layout, Pass, Place, PutsAll, Settled, Settles, Source, SourceLine, State, Takes, Work, bytes_at, coded_late, fault_at, fault_by, fronts, held_after, held_coded, held_definitions, held_final, late_line, line_in, line_then, parts, reading_of, readings, said_of, source_definitions, source_meaning, source_state, state_in, with_front, with_here, work_of}
use Rattle.text65.specs.Lines.{text_lines}
use Rattle.stmt65.proofs.Cases.{by_test}
use Rattle.stmt65.proofs.CodingLemmas.{front_kept}
use Rattle.stmt65.proofs.HeldLemmas.{definitions_held, meaning_held}
use Rattle.stmt65.proofs.NameLemmas.{bytes_alike, fault_alike, first_agree, knows, unless_any}

-- ---- what stands above a line, and below it

layout-after : (s : State) (l : Option SourceLine) → (held_after s l).layout ≡ s.layout
unfolding held_after
layout-after s None = refl
layout-after s (Some source) = refl

first_after : (s : State) (l : Option SourceLine) → AreFirstOf s.above (held_after s l).above
unfolding held_after
first_after s None = take-length s.above
first_after s (Some source) = take-append_seam s.above _

first_final : (s : State) (ls : List (Option SourceLine)) → AreFirstOf s.above (held_final s ls).above
unfolding held_final
first_final s [] = take-length s.above
first_final s (l ∷ ls) = front_kept s.above (held_after s l).above _ (first_after s l) (first_final (held_after s l) ls)

-- ---- what is in front

pub front-front : (a b : List ℕ) (m : Result (List ℕ) AsmFault) → with_front a (with_front b m) ≡ with_front (a ++ b) m
front-front a b (Ok bytes) = ap (λ (l : List ℕ). Ok l) (sym (append_assoc a b bytes))
front-front a b (Err f) = refl

pub front-nil : (m : Result (List ℕ) AsmFault) → with_front [] m ≡ m
front-nil (Ok bytes) = refl
front-nil (Err f) = refl

pub front-end : (bytes : List ℕ) → with_front bytes (Ok []) ≡ Ok bytes
front-end bytes = ap (λ (l : List ℕ). Ok l) (append-nil bytes)

-- ---- late lines

fronts_push : {A : Type 0} (ls : List (Late A)) (l : Late A) → fronts (ls ++ l ∷ []) ≡ fronts ls + l.front
unfolding fronts
fronts_push [] l = omega arith
fronts_push (k ∷ ls) l = let ih = fronts_push ls l in omega arith

-- more bytes below them all
late_more : {A : Type 0} (all : List Definition) (layout : Layout) (ls : List (Late A)) (settled bytes : List ℕ) (rest : Result (List ℕ) AsmFault) → fronts ls ≤ length settled
    → coded_late all layout ls (settled ++ bytes) rest ≡ coded_late all layout ls settled (with_front bytes rest)
unfolding coded_late fronts
late_more all layout [] settled bytes rest h = sym (front-front settled bytes rest)
late_more all layout (l ∷ ls) settled bytes rest h = grind (arith, (late_more all layout ls (drop l.front settled) bytes rest (omega (arith, length-drop l.front settled))), length-drop, take-append-le, drop-append-le)

-- one more of them
late_push : {A : Type 0} (all : List Definition) (layout : Layout) (ls : List (Late A)) (l : Late A) (settled : List ℕ) (rest : Result (List ℕ) AsmFault) → fronts ls + l.front ≡ length settled
    → coded_late all layout (ls ++ l ∷ []) settled rest ≡ coded_late all layout ls settled (line_then all l.number (late_line all layout l) rest)
unfolding coded_late fronts
late_push all layout [] l settled rest h = grind (arith, take_all, drop_all, front-nil)
late_push all layout (k ∷ ls) l settled rest h = grind (arith, (late_push all layout ls l (drop k.front settled) rest (omega (arith, length-drop k.front settled))), length-drop)

-- ---- work

none_fits : (fit : Fit) (p : Place) → None ≡ fault_by fit p → (fit.is_known ≡ true) × (fit.has_room ≡ true)
none_fits fit p e = grind arith

pub codes : (all : List Definition) (p : Place) (fit : Fit) (fault : Option AsmFaultKind) (old new : List ℕ) → PutsAll fit (with_here p.here all) p.next p.fragments old new → fault ≡ fault_by fit p → Codes fault all (Some p) old new
unfolding fault_at bytes_at
codes all p fit None old new puts e = record { finds = rw (← puts.fits.known, ← puts.fits.room) e; adds = rw (none_fits fit p e).1 at puts.adds }
codes all p fit (Some kind) old new puts e = record { finds = rw (← puts.fits.known, ← puts.fits.room) e; adds = tt }

pub settles_over : {A : Type 0} (p : Work A) (above : List Definition) (line : Option Place) → p.is_over ≡ true → Settles p p above line Settled
unfolding Settles
settles_over p above line e = λ n layout. record { sound = λ h. h; same = λ h all rest first. rw e refl }

takes_bytes : {A : Type 0} (p q : Work A) (n : ℕ) (layout : Layout) (above : List Definition) (line : Option Place) (bytes : List ℕ) → p.is_over ≡ false → q.late ≡ p.late → q.mark ≡ p.mark → q.is_over ≡ p.is_over → q.settled.items ≡ p.settled.items ++ bytes
    → ((all : List Definition) → AreFirstOf above all → fault_at all line ≡ None) → ((all : List Definition) → AreFirstOf above all → bytes_at all line ≡ bytes) → Takes p q n layout above line
takes_bytes p q n layout above line bytes e late mark over put h k = grind (arith, length-append, late_more)

pub settles_now : {A : Type 0} (p q : Work A) (place : Place) (fit : Fit) (above : List Definition) → p.is_over ≡ false → q.late ≡ p.late → q.mark ≡ p.mark → q.is_over ≡ p.is_over
    → PutsAll fit (with_here place.here above) place.next place.fragments p.settled.items q.settled.items → None ≡ fault_by fit place → Settles p q above (Some place) Settled
unfolding Settles
settles_now p q place fit above e late mark over puts none =
    let known : knows above place ≡ true = sym puts.fits.known ∙ (none_fits fit place none).0 in
    let coded = codes above place fit None p.settled.items q.settled.items puts none in
    λ n layout. takes_bytes p q n layout above (Some place) (bytes_at above (Some place)) e late mark over coded.adds
    (λ all first. fault_alike above all place (first_agree above all first) known ∙ sym coded.finds) (λ all first. bytes_alike above all place (first_agree above all first) known)

-- a line that ends past $10000 has a fault by whatever names
past_end : (all : List Definition) (p : Place) → ltb 65536 p.next ≡ true → is_some (fault_at all (Some p)) ≡ true
unfolding fault_at
past_end all p past = grind arith

pub is_left : {A : Type 0} (p q : Work A) (place : Place) (fit : Fit) (above : List Definition) (mid : List ℕ) → p.is_over ≡ false → q.late ≡ p.late → q.mark ≡ p.mark → q.is_over ≡ p.is_over
    → PutsAll fit (with_here place.here above) place.next place.fragments p.settled.items mid → q.settled.items ≡ take (length p.settled.items) mid → IsLeft p q
is_left p q place fit above mid e late mark over puts cut = record { settled = cut ∙ puts.keeps; late = late; mark = mark; before = e; over = over ∙ e }

pub is_faulty : (place : Place) (fit : Fit) (above : List Definition) (old mid : List ℕ) → PutsAll fit (with_here place.here above) place.next place.fragments old mid → is_some (fault_by fit place) ≡ true → true ≡ (fit.is_known || ltb 65536 place.next) → IsFaulty above (Some place)
unfolding fault_at
is_faulty place fit above old mid puts some faulty = λ all first. by_test fit.is_known
    (λ known. ap is_some (fault_alike above all place (first_agree above all first) (sym puts.fits.known ∙ known)) ∙ rw (← puts.fits.known, ← puts.fits.room) some)
    (λ unknown. past_end all place (sym (rw unknown at faulty)))

pub left_takes : {A : Type 0} (p left q : Work A) (n : ℕ) (layout : Layout) (above : List Definition) (line : Option Place) → IsLeft p left → Takes left q n layout above line → Takes p q n layout above line
left_takes p left q n layout above line is takes = grind arith

-- a line is kept; where it has a fault, what comes below it is hidden
pub takes_late : {A : Type 0} (p q : Work A) (l : Late A) (s : State) (is_faulty : Bool) → p.is_over ≡ false → q.is_over ≡ is_faulty → q.settled ≡ p.settled → q.late.items ≡ p.late.items ++ l ∷ [] → q.mark ≡ length p.settled.items
    → (p.mark ≤ length p.settled.items → p.mark + l.front ≡ length p.settled.items) → IsOf l s → (is_faulty ≡ true → IsFaulty s.above (line_in s (said_of l))) → Takes p q l.number s.layout s.above (line_in s (said_of l))
takes_late p q l s is_faulty e f same late mark front is faulty = grind (arith, fronts_push, late_push, unless_any)

-- ---- the first pass

-- before a line: what the lines below define, and what comes of all lines
pub record AtLine {A L M : Type 0} (source : Source M) (n : ℕ) (p : Pass A L) (text : List ℕ) : Type 0 where
  pub above : (held_final (state_in p) (readings source.language text)).above ≡ held_definitions (source_definitions source)
  pub sound : IsSound p.work
  pub work : work_of (held_definitions (source_definitions source)) p.state.layout.now p.work (held_coded (held_definitions (source_definitions source)) n (state_in p) (readings source.language text)) ≡ source_meaning source

pub at_start : {A L M : Type 0} (source : Source M) (p : Pass A L) → source.start < 65536 → state_in p ≡ source_state source → IsIdle p.work → AtLine source 1 p source.text.now
unfolding coded_late fronts
at_start source p small e idle = grind (arith, front-nil, definitions_held, meaning_held)

pub at_next : {A L M : Type 0} (source : Source M) (n : ℕ) (p q : Pass A L) (text line rest : List ℕ) → AtLine source n p text → text_lines text ≡ line ∷ text_lines rest → GoesOn p q n (reading_of source.language (parts source.language line)) → AtLine source (n + 1) q rest
unfolding held_final held_coded
at_next source n p q text line rest h e goes = grind (arith, (first_final (state_in p) (readings source.language text)), layout-after)

pub passed : {A L M : Type 0} (source : Source M) (n : ℕ) (p : Pass A L) (text : List ℕ) → AtLine source n p text → text_lines text ≡ [] → IsPassed p source
unfolding held_final held_coded
passed source n p text h e =
    let names : p.names ≡ held_definitions (source_definitions source) = rw e at h.above in
    record { names = names; means = sym (rw names (by_test p.work.is_over (λ over. rw (e, over) at h.work) (λ over. rw (e, over) at h.work))) }

-- ---- the second pass

-- at a late line, with the bytes before it
late_at : {A : Type 0} (all : List Definition) (layout : Layout) (ls : List (Late A)) (i : ℕ) (l : Late A) (settled out : List ℕ) (rest total : Result (List ℕ) AsmFault) → i < length ls → l ≡ get_or ls i l
    → with_front out (coded_late all layout (drop i ls) settled rest) ≡ total
    → with_front (out ++ take l.front settled) (line_then all l.number (late_line all layout l) (coded_late all layout (drop (i + 1) ls) (drop l.front settled) rest)) ≡ total
unfolding coded_late
late_at {A = A} all layout ls i l settled out rest total inside is h = grind (arith, drop_more, front-front)

pub late_faulty : {A : Type 0} (all : List Definition) (layout : Layout) (ls : List (Late A)) (i : ℕ) (l : Late A) (settled out old new : List ℕ) (rest total : Result (List ℕ) AsmFault) (kind : AsmFaultKind) → i < length ls → l ≡ get_or ls i l
    → with_front out (coded_late all layout (drop i ls) settled rest) ≡ total → Codes (Some kind) all (late_line all layout l) old new → total ≡ Err (record { line = l.number; kind = kind })
late_faulty all layout ls i l settled out old new rest total kind inside is h codes = sym (rw (← codes.finds) at (late_at all layout ls i l settled out rest total inside is h))

pub late_next : {A : Type 0} (all : List Definition) (layout : Layout) (ls : List (Late A)) (i : ℕ) (l : Late A) (settled out front put new more : List ℕ) (rest total : Result (List ℕ) AsmFault) → i < length ls → l ≡ get_or ls i l
    → with_front out (coded_late all layout (drop i ls) settled rest) ≡ total → front ≡ take l.front settled → more ≡ drop l.front settled → put ≡ out ++ front → Codes None all (late_line all layout l) put new
    → with_front new (coded_late all layout (drop (i + 1) ls) more rest) ≡ total
late_next all layout ls i l settled out front put new more rest total inside is h f g k codes = grind (arith, (late_at all layout ls i l settled out rest total inside is h), front-front)

pub late_end : {A : Type 0} (all : List Definition) (layout : Layout) (ls : List (Late A)) (i : ℕ) (settled out new : List ℕ) (total : Result (List ℕ) AsmFault) → length ls ≤ i
    → with_front out (coded_late all layout (drop i ls) settled (Ok [])) ≡ total → new ≡ out ++ settled → total ≡ Ok new
unfolding coded_late
late_end all layout ls i settled out new total past h f = sym (rw (drop_all i ls past, append-nil) at h) ∙ ap (λ (l : List ℕ). Ok l) (sym f)
