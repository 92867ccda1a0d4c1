-- Reading groups token by token: what may come next, and the first fault.
--
-- A table of places, what is due at each, and the faults in order. The laws tie it to the grammar: a
-- file is accepted if and only if its tokens are groups that keep every condition, and a refusal is the
-- fault of the first token that has one.
use Rattle.std.specs.Prelude.{ℕ, List, [], ◌∷◌, ◌++◌, Option, Some, None, Result, Ok, Err, length, nat_lt, if◌then◌else◌}
use Rattle.info65.specs.Attributes.{attribute_named, group_named}
use Rattle.info65.specs.Closing.{closing_fault}
use Rattle.info65.specs.Faults.{fault, ◌>>=◌}
use Rattle.info65.specs.Groups.{AssignmentView, GroupView, is_given}
use Rattle.info65.specs.IncludeGroups.{has_room}
use Rattle.info65.specs.Lexemes.{KindView, word, opening_brace, closing_brace, semicolon}
use Rattle.info65.specs.Settings.{info_of}
use Rattle.info65.specs.Tokens.{Stream, TokenView, tokens_of}
use Rattle.info65.specs.Values.{ValueView, value_of}
use Rattle.info65.specs.Views.{InfoView, OptionsView}
use Rattle.info65.specs.Types.{Attribute, Expected, GivenTwice, GroupKind, InfoFault, InfoFaultKind, TooLarge, UnknownAttribute, UnknownGroup}

-- Where the reader is, what is due there, and the faults of the token in their order:
--
--   place      what is due                                   faults
--   outside    the name of a group, or the end               Expected, UnknownGroup
--   closed     the same, or a `;` after the group            Expected, UnknownGroup
--   opening    `{`                                           Expected
--   inside     the name of an attribute                      Expected, UnknownAttribute, GivenTwice
--              or `}`                                        Missing, OutOfRange, RangesOverlap,
--                                                            SegmentsOverlap, ReservedName, NameTwice,
--                                                            AddressTwice
--   valued     the value of the attribute                    Expected, OutOfRange, BadName, NameConflict,
--                                                            TooLarge
--   assigned     `;`                                           Expected
--
-- The end at any other place is Expected, and a token that has a fault of its own (BadByte, OpenString,
-- BadNumber) is refused for that. The open group has its kind and what is given in it so far.
pub data Stage : Type 0 where
  outside closed : Stage
  opening : GroupKind → Stage
  inside : GroupKind → List AssignmentView → Stage
  valued : GroupKind → List AssignmentView → Attribute → Stage
  assigned : GroupKind → List AssignmentView → Stage

-- the place, and the groups that are closed
abbrev pub State : Type 0
State = Stage × List GroupView

abbrev pub group : GroupKind → List AssignmentView → GroupView
group k given = record { kind = k; given = given }

abbrev pub one : Attribute → ValueView → AssignmentView
one a v = record { attribute = a; value = v }

abbrev pub opened : List GroupView → ℕ → Option GroupKind → Result State InfoFault
opened before line (Some k) = Ok (opening k, before)
opened before line None = Err (fault line UnknownGroup)

-- the name of a group
abbrev pub at_group : List GroupView → TokenView → KindView → Result State InfoFault
at_group before t word = opened before t.line (group_named t.text)
at_group before t _ = Err (fault t.line Expected)

-- a `;` after a group, or the name of the next
abbrev pub after_group : List GroupView → TokenView → KindView → Result State InfoFault
after_group before t semicolon = Ok (outside, before)
after_group before t k = at_group before t k

abbrev pub at_brace : List GroupView → GroupKind → TokenView → KindView → Result State InfoFault
at_brace before k t opening_brace = Ok (inside k [], before)
at_brace before k t _ = Err (fault t.line Expected)

abbrev pub named : List GroupView → GroupKind → List AssignmentView → ℕ → Option Attribute → Result Attribute InfoFault
named before k given line (Some a) = if is_given before k given a then Err (fault line GivenTwice) else Ok a
named before k given line None = Err (fault line UnknownAttribute)

-- the attribute that a name begins
unfoldable pub attribute_at : List GroupView → GroupKind → List AssignmentView → TokenView → Result Attribute InfoFault
attribute_at before k given t = named before k given t.line (attribute_named k t.text)

abbrev pub closed_by : List GroupView → GroupKind → List AssignmentView → ℕ → Option InfoFaultKind → Result State InfoFault
closed_by before k given line None = Ok (closed, before ++ group k given ∷ [])
closed_by before k given line (Some f) = Err (fault line f)

-- the end of the group
abbrev pub at_end : List GroupView → GroupKind → List AssignmentView → ℕ → Result State InfoFault
at_end before k given line = closed_by before k given line (closing_fault before k given)

-- the name of an attribute, or the end of the group
abbrev pub at_attribute : List GroupView → GroupKind → List AssignmentView → TokenView → KindView → Result State InfoFault
at_attribute before k given t closing_brace = at_end before k given t.line
at_attribute before k given t word = attribute_at before k given t >>= λ a. Ok (valued k given a, before)
at_attribute before k given t _ = Err (fault t.line Expected)

abbrev pub at_semicolon : List GroupView → GroupKind → List AssignmentView → TokenView → KindView → Result State InfoFault
at_semicolon before k given t semicolon = Ok (inside k given, before)
at_semicolon before k given t _ = Err (fault t.line Expected)

-- the value of an attribute, if there is room for one more
unfoldable pub value_at : OptionsView → List GroupView → Attribute → TokenView → Result ValueView InfoFault
value_at o before a t = value_of o a t >>= λ v. if has_room before a then Ok v else Err (fault t.line TooLarge)

-- one token more, or its fault
unfoldable pub step : OptionsView → Stage → List GroupView → TokenView → Result State InfoFault
step o outside before t = at_group before t t.kind
step o closed before t = after_group before t t.kind
step o (opening k) before t = at_brace before k t t.kind
step o (inside k given) before t = at_attribute before k given t t.kind
step o (valued k given a) before t = value_at o before a t >>= λ v. Ok (assigned k (given ++ one a v ∷ []), before)
step o (assigned k given) before t = at_semicolon before k given t t.kind

-- the end is here, or the fault of a token, where a token is due
abbrev pub wanted : Result ℕ InfoFault → InfoFault
wanted (Ok line) = fault line Expected
wanted (Err e) = e

abbrev pub done : List GroupView → Result ℕ InfoFault → Result (List GroupView) InfoFault
done before (Ok line) = Ok before
done before (Err e) = Err e

unfoldable pub finish : Stage → List GroupView → Result ℕ InfoFault → Result (List GroupView) InfoFault
finish outside before ending = done before ending
finish closed before ending = done before ending
finish _ before ending = Err (wanted ending)

unfoldable pub read_from : OptionsView → Stage → List GroupView → List TokenView → Result ℕ InfoFault → Result (List GroupView) InfoFault
read_from o p before [] ending = finish p before ending
read_from o p before (t ∷ ts) ending = step o p before t >>= λ q. read_from o q.0 q.1 ts ending

-- what is read from here on: all groups, or the first fault
unfoldable pub read : OptionsView → Stage → List GroupView → Stream → Result (List GroupView) InfoFault
read o p before stream = read_from o p before stream.tokens stream.ending

-- the same, with this token before them
unfoldable pub read_token : OptionsView → Stage → List GroupView → TokenView → Stream → Result (List GroupView) InfoFault
read_token o p before t stream = step o p before t >>= λ q. read o q.0 q.1 stream

-- the groups of a text
unfoldable pub groups_of : OptionsView → List ℕ → Result (List GroupView) InfoFault
groups_of o bytes = read o outside [] (tokens_of 1 bytes)

-- What an information file says under some options, or the fault that it is refused for: a file above
-- 1,048,576 bytes is too large, before all else.
unfoldable pub information : OptionsView → List ℕ → Result InfoView InfoFault
information o bytes =
    if nat_lt 1_048_576 (length bytes) then Err (fault 1 TooLarge)
    else groups_of o bytes >>= λ groups. Ok (info_of o groups)
