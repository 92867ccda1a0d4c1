-- What is kept of closed groups says what all of them say.
use Rattle.std.proofs.Common.{◌≡◌, ◌∙◌, Bool, List, [], ◌∷◌, ◌++◌, ap, ap₂, length, refl, sym}
use Rattle.std.specs.Prelude.{nat_lt}
use Rattle.std.specs.List.{flat_map}
use Rattle.std.proofs.lemmas.Grind.{flat_map-append}
use Rattle.std.proofs.lemmas.List.{append-nil}
use Rattle.info65.specs.Words.{AreAllFormed, AreFormed, AreMarked, AreRanged, AreSetAlike, AssignmentView, Attribute, GroupKind, GroupView, RangeSpec, SegmentView, given_before, global_given, global_part, has_room, include_part, includes_of, is_given, kept_of, kept_part, segment_part, segments_of}
use Rattle.info65.specs.declared.syntax.attribute.Attribute.TheVariants as attribute
use Rattle.info65.specs.declared.syntax.attribute.GroupKind.TheVariants as kind

pub kept_more : (before : List GroupView) (g : GroupView) → kept_of (before ++ g ∷ []) ≡ kept_of before ++ kept_part g
unfolding kept_of
kept_more before g = flat_map-append kept_part before (g ∷ []) ∙ ap (λ l. flat_map kept_part before ++ l) (append-nil (kept_part g))

-- the kept groups say what all of them do, if groups RANGE and LABEL say nothing
kept_says : {X : Type 0} (f : GroupView → List X) → ((given : List AssignmentView) → (f (record { kind = kind.Range; given = given }) ≡ []) × (f (record { kind = kind.Label; given = given }) ≡ [])) → (gs : List GroupView) → flat_map f (flat_map kept_part gs) ≡ flat_map f gs
kept_says f none [] = refl
kept_says f none (g ∷ gs) = flat_map-append f (kept_part g) (flat_map kept_part gs) ∙ ap₂ (λ a b. a ++ b) (same g.kind g.given) (kept_says f none gs)
  where
    same : (k : GroupKind) (given : List AssignmentView) → flat_map f (kept_part (record { kind = k; given = given })) ≡ f (record { kind = k; given = given })
    same kind.Range given = sym (none given).0
    same kind.Label given = sym (none given).1
    same k given = append-nil (f (record { kind = k; given = given }))

pub global_kept : (gs : List GroupView) → global_given (kept_of gs) ≡ global_given gs
unfolding global_given kept_of
global_kept gs = kept_says global_part (λ given. (refl, refl)) gs

pub segments_kept : (gs : List GroupView) → segments_of (kept_of gs) ≡ segments_of gs
unfolding segments_of kept_of
segments_kept gs = kept_says segment_part (λ given. (refl, refl)) gs

pub includes_kept : (gs : List GroupView) → includes_of (kept_of gs) ≡ includes_of gs
unfolding includes_of kept_of
includes_kept gs = kept_says include_part (λ given. (refl, refl)) gs

-- so the tests of an attribute need no other groups

before_kept : (gs : List GroupView) (k : GroupKind) → given_before (kept_of gs) k ≡ given_before gs k
before_kept gs kind.Global = global_kept gs
before_kept gs _ = refl

pub given_kept : (gs : List GroupView) (k : GroupKind) (given : List AssignmentView) (a : Attribute) → is_given (kept_of gs) k given a ≡ is_given gs k given a
unfolding is_given
given_kept gs k given a = rw (before_kept gs k) refl

pub room_kept : (gs : List GroupView) (a : Attribute) → has_room (kept_of gs) a ≡ has_room gs a
unfolding has_room
room_kept gs attribute.File = ap (λ l. nat_lt (length l) 16) (includes_kept gs)
room_kept gs _ = refl

pub formed_kept : (gs : List GroupView) → AreAllFormed gs → AreAllFormed (kept_of gs)
unfolding kept_of
formed_kept [] f = f
formed_kept (g ∷ gs) f = more g.kind g.given f.0 (formed_kept gs f.1)
  where
    more : (k : GroupKind) (given : List AssignmentView) → AreFormed given → AreAllFormed (kept_of gs) → AreAllFormed (kept_part (record { kind = k; given = given }) ++ kept_of gs)
    more kind.Range given f rest = rest
    more kind.Label given f rest = rest
    more _ given f rest = (f, rest)

-- ---- while there is made room for a group

pub ranged_alike : (ranges : List RangeSpec) (old new : List Bool) → AreSetAlike old new → AreRanged ranges old → AreRanged ranges new
ranged_alike ranges old new same m = record { ordered = m.ordered; ranged = λ a low. same a low ∙ m.ranged a low }

pub marked_alike : (segments : List SegmentView) (old new : List Bool) → AreSetAlike old new → AreMarked segments old → AreMarked segments new
marked_alike segments old new same m = record { ordered = m.ordered; marked = λ a low. same a low ∙ m.marked a low }
