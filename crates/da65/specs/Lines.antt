-- The lines of a listing that are left from a place on.
use Rattle.std.specs.Prelude.{◌≡◌, ℕ, zero, suc, ◌+◌, ◌-◌, ◌*◌, ◌<◌, ◌≤◌, nat_lt, Bool, true, false, if◌then◌else◌, List, [], ◌∷◌, ◌++◌, drop, length, map, not, MatchOption, Option, None}
use Rattle.std.specs.List.{flat_map, list_any}
use Rattle.da65.specs.Types.{Constant, Cpu, Ending, Header, Heading, ListingPlace, Style}
use Rattle.map65.specs.Words.{IsSoundMap, MapView, addresses, has_name, is_skip, role_of, segment_at}
use Rattle.da65.specs.BaseNames.{names_of}
use Rattle.da65.specs.Comments.{comment_at}
use Rattle.da65.specs.Groups.{IsGroupPlace, group_bytes, group_len, groups_from, is_skip_range}
use Rattle.da65.specs.Listing.{ListingLine, assignment_line, comment_lines, constants, ending_lines, forward_lines, group_line, group_lines, has_constant_line, has_separator, header_lines, line_text, plain, segment_lines, separator_lines, statement_lines, with_empty_line}
use Rattle.da65.specs.Marks.{has_marks}
use Rattle.da65.specs.Segments.{segment_statement}
use Rattle.da65.specs.Statements.{statement_at}
use Rattle.da65.specs.Style.{style_of}
use Rattle.da65.specs.declared.listing.place.ListingPlace.TheVariants.{Assignment, Group, Statement}
use Rattle.stmt65.specs.Words.{MayBeLabelled}
use Rattle.stmt65.specs.Views as view

-- the lines of the groups from the k-th byte on
unfoldable pub groups_left : MapView → ℕ → List ListingLine
groups_left m k = flat_map (group_lines m) (groups_from m k)

-- the constant lines that are left, with an empty line after them if there is one of them, or one was written before
abbrev pub with_blank_after : Bool → List ListingLine → List ListingLine
with_blank_after true ls = ls ++ plain view.blank ∷ []
with_blank_after false ls = with_empty_line ls

-- the constant lines of the addresses from one on
abbrev pub constants_from : MapView → ℕ → List ListingLine
constants_from m v = constants m (65536 - v) v

-- no address from one on and before another has a constant line
abbrev pub PassesOver : MapView → ℕ → ℕ → Type 0
PassesOver m from to = constants_from m from ≡ constants_from m to

-- the same up to the one that is found, or else up to the end, or of all
abbrev pub PassesTo : MapView → ℕ → ℕ → Option ℕ → Type 0
PassesTo m from end found = MatchOption found (PassesOver m from end) (PassesOver m from)

abbrev pub PassesAll : MapView → ℕ → Option ℕ → Type 0
PassesAll m from found = MatchOption found (constants_from m from ≡ []) (PassesOver m from)

-- from the lines of the constant of an address on
unfoldable pub constants_left : MapView → ℕ → Bool → List ListingLine
constants_left m v any = with_blank_after any (constants_from m v) ++ groups_left m 0

-- what follows the statement of the group that begins with the k-th byte
unfoldable pub after_group : MapView → ℕ → List ListingLine
after_group m k = ending_lines m (m.image.start + k) ++ groups_left m (k + group_len m (m.image.start + k))

-- the statement of that group, after this label if there is one
abbrev pub statement_line : MapView → ℕ → Option (List ℕ) → ListingLine
statement_line m k label = group_line label (statement_at m (m.image.start + k)) (m.image.start + k) (group_bytes m (m.image.start + k))

-- from that on
abbrev pub labelled_left : MapView → ℕ → Option (List ℕ) → List ListingLine
labelled_left m k label = statement_line m k label ∷ after_group m k

-- What may stand before the label of the group that begins at an address, by its number: the separator, the segment,
-- the comment of the name of each of its bytes, the forward line of each but the first.
unfoldable pub heading_lines : MapView → ℕ → ℕ → List ListingLine
heading_lines m a zero = separator_lines m a
heading_lines m a (suc zero) = segment_lines m a
heading_lines m a (suc (suc i)) =
    if nat_lt i (group_len m a) then comment_lines m (a + i) else forward_lines (names_of m) a (a + (i - group_len m a + 1))

-- how many of these there are
abbrev pub heading_count : MapView → ℕ → ℕ
heading_count m a = 2 * group_len m a + 1

-- those from a number on
abbrev pub headings_from : MapView → ℕ → ℕ → List ListingLine
headings_from m a n = flat_map (heading_lines m a) (addresses (heading_count m a - n) n)

-- from the line of a number on, of the group that begins with the k-th byte
unfoldable pub group_left : MapView → ℕ → ℕ → List ListingLine
group_left m k n = headings_from m (m.image.start + k) n ++ (statement_lines m (m.image.start + k) ++ after_group m k)

abbrev pub left_from : ListingPlace → MapView → List ListingLine
left_from (Header n) m = drop n (header_lines m.info.settings.cpu) ++ constants_left m 0 false
left_from (Constant v any) m = constants_left m v any
left_from (Assignment v) m = assignment_line (names_of m) v ∷ constants_left m (v + 1) true
left_from (Group k) m = groups_left m k
left_from (Heading k n) m = group_left m k n
left_from (Statement k) m = labelled_left m k None
left_from (Ending k) m = plain view.blank ∷ groups_left m k

-- the same as text
abbrev pub lines_from : ListingPlace → MapView → List (List ℕ)
lines_from place m = map (line_text (style_of m.info.settings)) (left_from place m)

-- a group begins with the k-th byte
pub record IsGroupStart (m : MapView) (k : ℕ) : Type 0 where
  pub place : IsGroupPlace m k
  pub inside : k < length m.image.bytes
  pub shown : is_skip (role_of m.info (m.image.start + k)) ≡ false

-- the address has a constant line
pub record IsConstant (m : MapView) (v : ℕ) : Type 0 where
  pub low : v < 65536
  pub has : has_constant_line (names_of m) v ≡ true

abbrev pub IsPlace : ListingPlace → MapView → Type 0
IsPlace (Header n) m = n < 4
IsPlace (Constant v any) m = v ≤ 65536
IsPlace (Assignment v) m = IsConstant m v
IsPlace (Group k) m = IsGroupPlace m k
IsPlace (Heading k n) m = IsGroupStart m k
IsPlace (Statement k) m = IsGroupStart m k
IsPlace (Ending k) m = IsGroupPlace m k

-- ---- one line after the other

-- the text of the first of these lines, and the lines after it
pub record IsFirstOf (t : Style) (left : List ListingLine) (text : List ℕ) (rest : List ListingLine) : Type 0 where
  pub head : ListingLine
  pub lines : left ≡ head ∷ rest
  pub text_is : text ≡ line_text t head

-- the text is that of the one line that these are, or there is none
abbrev pub IsLineOf : MapView → List ListingLine → List ℕ → Bool → Type 0
IsLineOf m lines text true = IsFirstOf (style_of m.info.settings) lines text []
IsLineOf m lines text false = lines ≡ []

-- the line that enters a segment
abbrev pub segment_line : Option (List ℕ) → ListingLine
segment_line s = plain (segment_statement s)

-- the text of the first of these lines, and the place from which the lines after it are left
pub record IsNext (m : MapView) (left : List ListingLine) (text : List ℕ) (next : ListingPlace) : Type 0 where
  pub lines : IsFirstOf (style_of m.info.settings) left text (left_from next m)
  pub place : IsPlace next m

-- the same, where there may be no line
abbrev pub MayBeNext : MapView → List ListingLine → List ℕ → Option ListingPlace → Type 0
MayBeNext m left text next = MatchOption next (left ≡ []) (IsNext m left text)

-- the same of the lines that are left from a place
abbrev pub MayBeNextAt : MapView → ListingPlace → List ℕ → Option ListingPlace → Type 0
MayBeNextAt m place text next = MayBeNext m (left_from place m) text next

-- from the one byte on the groups are left that are left from the other on; none are left if there is none
abbrev pub LeadsTo : MapView → ℕ → Option ℕ → Type 0
LeadsTo m from to = MatchOption to (groups_left m from ≡ []) (λ at. groups_left m at ≡ groups_left m from)

-- the text is that of the line of this number of the header
abbrev pub IsHeaderLine : Style → ℕ → List ℕ → Type 0
IsHeaderLine t n text = IsFirstOf t (drop n (header_lines t.cpu)) text (drop (n + 1) (header_lines t.cpu))

-- the text is that of the first line of the constants from an address on, whether or not one stands above
abbrev pub IsConstantNext : MapView → ℕ → List ℕ → ListingPlace → Type 0
IsConstantNext m v text next = (any : Bool) → IsNext m (constants_left m v any) text next

-- the same, where there may be none
abbrev pub MayBeConstantNext : MapView → ℕ → List ℕ → Option ListingPlace → Type 0
MayBeConstantNext m v text next = MatchOption next (constants_from m v ≡ []) (IsConstantNext m v text)

-- the text is that of the constant line of an address
abbrev pub IsAssignmentNext : MapView → ℕ → List ℕ → ListingPlace → Type 0
IsAssignmentNext m v text next = IsNext m (assignment_line (names_of m) v ∷ constants_left m (v + 1) true) text next

-- the text is that of its label, or of its first line without headings
abbrev pub IsLabelNext : MapView → ℕ → List ℕ → ListingPlace → Type 0
IsLabelNext m k text next = IsNext m (statement_lines m (m.image.start + k) ++ after_group m k) text next

-- its statement may stand after this label
abbrev pub MayFollow : MapView → ℕ → Option (List ℕ) → Type 0
MayFollow m k label = MayBeLabelled (style_of m.info.settings).columns label (statement_at m (m.image.start + k))

-- none of so many addresses from one on has a name
abbrev pub AreUnnamed : MapView → ℕ → ℕ → Type 0
AreUnnamed m a n = (v : ℕ) → a ≤ v → v < a + n → has_name m v ≡ false

-- ---- what lists an image

-- the listing has no separators, no segments but the default, and no comments
pub record IsUnmarked (m : MapView) : Type 0 where
  pub separators : (a : ℕ) → has_separator m a ≡ false
  pub comments : (a : ℕ) → comment_at m a ≡ None
  pub segments : (a : ℕ) → segment_at m a ≡ None

-- what is kept beside a map is what its information says: the style, the CPU, whether a listing can have marks,
-- and whether no range has the type SKIP
pub record IsListed (m : MapView) (t : Style) (cpu : Cpu) (marked all : Bool) : Type 0 where
  pub sound : IsSoundMap m
  pub style_is : t ≡ style_of m.info.settings
  pub cpu_is : cpu ≡ m.info.settings.cpu
  pub marks : marked ≡ has_marks m.info (style_of m.info.settings)
  pub skips : all ≡ not (list_any is_skip_range m.info.ranges)
