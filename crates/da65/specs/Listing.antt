-- The listing of an image, as lines and as text.
--
-- First the header: a remark, an empty line, `.setcpu`, an empty line. Then the constant lines in address order, each
-- after the comment line of its name, and, if there is one, an empty line after the last: every given name outside the
-- image or in skipped bytes has its line, used or not. Then the groups in address order. A group is, in this order: the
-- separator, if a run begins and the comment level is at least 1; a line that enters its segment, if the group before
-- it has another one; the comment lines of its names by address; its forward lines by address; its label; its
-- statement; and an empty line, if the settings ask for one after that instruction. A label stands on the line of its
-- statement if there is room for it, else on a line of its own.
use Rattle.std.specs.Prelude.{ℕ, ◌+◌, ◌-◌, ◌&&◌, ◌||◌, not, nat_lt, Bool, false, if◌then◌else◌, List, [], ◌∷◌, ◌++◌, map, codes, replicate, Option, Some, None}
use Rattle.std.specs.List.{flat_map}
use denote.Enum.Bare.{sameb}
use Rattle.isa65.specs.contracts.mnemonic.Mnemonic as mnemonic
use Rattle.da65.specs.Types.{Columns, Cpu, Jmp, Rts, Style}
use Rattle.stmt65.specs.Views as view
use Rattle.stmt65.specs.Words.{RemarksView, StatementView, fits_label, line_of}
use Rattle.map65.specs.Words.{MapView, addresses, is_in_run, segment_at}
use Rattle.da65.specs.BaseNames.{AddressNames, base_name, is_base, names_of}
use Rattle.da65.specs.Comments.{comment_at}
use Rattle.da65.specs.Groups.{group_addresses, group_bytes, group_len}
use Rattle.da65.specs.Segments.{is_same_segment, segment_before, segment_statement}
use Rattle.da65.specs.Statements.{statement_at}
use Rattle.da65.specs.Style.{style_of}

-- a line: the label before its statement, if there is one, and the statement, with its address
-- and its bytes if it is that of a group
pub record ListingLine : Type 0 where
  pub label : Option (List ℕ)
  pub statement : StatementView
  pub address : ℕ
  pub bytes : List ℕ

-- a line without a label and without bytes
abbrev pub plain : StatementView → ListingLine
plain s = record { label = None; statement = s; address = 0; bytes = [] }

-- ---- the header

abbrev pub header_lines : Cpu → List ListingLine
header_lines cpu = plain (view.remark (codes "da65 listing")) ∷ plain view.blank ∷ plain (view.set_cpu cpu) ∷ plain view.blank ∷ []

-- ---- comments of names

abbrev pub comment_line : Option (List ℕ) → List ListingLine
comment_line None = []
comment_line (Some text) = plain (view.remark text) ∷ []

-- the comment of the name of an address, if it has one
abbrev pub comment_lines : MapView → ℕ → List ListingLine
comment_lines m a = comment_line (comment_at m a)

-- of the n addresses from one on, in their order
abbrev pub comments : MapView → ℕ → ℕ → List ListingLine
comments m n a = flat_map (comment_lines m) (addresses n a)

-- ---- constant lines

-- a constant line defines the base that stands for the address
abbrev pub has_constant_line : AddressNames → ℕ → Bool
has_constant_line m v = is_base m v && m.has_constant v

-- the line that gives the base its value
abbrev pub assignment_line : AddressNames → ℕ → ListingLine
assignment_line m v = plain (view.assignment (base_name m v) v)

-- it stands after the comment of its name
abbrev pub constant_lines : MapView → ℕ → List ListingLine
constant_lines m v = if has_constant_line (names_of m) v then comment_lines m v ++ assignment_line (names_of m) v ∷ [] else []

-- of the n addresses from one on, in their order
abbrev pub constants : MapView → ℕ → ℕ → List ListingLine
constants m n v = flat_map (constant_lines m) (addresses n v)

-- with an empty line after the last, if there is one
abbrev pub with_empty_line : List ListingLine → List ListingLine
with_empty_line [] = []
with_empty_line (l ∷ ls) = (l ∷ ls) ++ plain view.blank ∷ []

-- ---- the lines at the head of a group

-- a remark of 76 hyphens
unfoldable pub separator : StatementView
separator = view.remark (replicate 76 45)

-- at comment level 1 and above the separator stands before the first group of each run
abbrev pub has_separator : MapView → ℕ → Bool
has_separator m a = nat_lt 0 (style_of m.info.settings).level && not (is_in_run m a)

abbrev pub separator_lines : MapView → ℕ → List ListingLine
separator_lines m a = if has_separator m a then plain separator ∷ [] else []

-- A group enters its segment if that is not the segment of the group before it. The
-- first group is compared with the default.
unfoldable pub segment_lines : MapView → ℕ → List ListingLine
segment_lines m a =
    if is_same_segment (segment_at m a) (segment_before m (a - m.image.start)) then [] else plain (segment_statement (segment_at m a)) ∷ []

-- the separator, the segment, the comments of the names in the group by address
unfoldable pub opening_lines : MapView → ℕ → List ListingLine
opening_lines m a = separator_lines m a ++ (segment_lines m a ++ comments m (group_len m a) a)

-- ---- the lines of a group

-- a name inside the group that begins at `first` is defined before it, by the distance from its first byte
abbrev pub forward_line : AddressNames → ℕ → ℕ → ListingLine
forward_line m first v = plain (view.forward (base_name m v) (v - first))

abbrev pub forward_lines : AddressNames → ℕ → ℕ → List ListingLine
forward_lines m first v = if is_base m v then forward_line m first v ∷ [] else []

-- of the n addresses from one on, in their order
abbrev pub forwards : AddressNames → ℕ → ℕ → ℕ → List ListingLine
forwards m first n v = flat_map (forward_lines m first) (addresses n v)

-- the label of an address
abbrev pub label_at : AddressNames → ℕ → Option (List ℕ)
label_at m a = if is_base m a then Some (base_name m a) else None

-- a statement that stands before its bytes, after this label if there is one
abbrev pub group_line : Option (List ℕ) → StatementView → ℕ → List ℕ → ListingLine
group_line label s a bytes = record { label = label; statement = s; address = a; bytes = bytes }

-- a label that has no room on the line of its statement has a line of its own
abbrev pub labelled : Columns → Option (List ℕ) → StatementView → ℕ → List ℕ → List ListingLine
labelled c None s a bytes = group_line None s a bytes ∷ []
labelled c (Some name) s a bytes =
    if fits_label c name then group_line (Some name) s a bytes ∷ [] else plain (view.label name) ∷ group_line None s a bytes ∷ []

-- the label and the statement of the group that begins at an address
unfoldable pub statement_lines : MapView → ℕ → List ListingLine
statement_lines m a = labelled (style_of m.info.settings).columns (label_at (names_of m) a) (statement_at m a) a (group_bytes m a)

-- the settings ask for an empty line after the statement: it is `jmp` or `rts`
abbrev pub has_empty_line : Style → StatementView → Bool
has_empty_line t (view.instr op absolute operands) = (t.after_jmp && sameb mnemonic.the_type op.mnemonic Jmp) || (t.after_rts && sameb mnemonic.the_type op.mnemonic Rts)
has_empty_line t _ = false

-- the empty line after the statement of the group
unfoldable pub ending_lines : MapView → ℕ → List ListingLine
ending_lines m a = if has_empty_line (style_of m.info.settings) (statement_at m a) then plain view.blank ∷ [] else []

-- what opens it, its forward lines by address, its label and its statement, and the empty line after that
unfoldable pub group_lines : MapView → ℕ → List ListingLine
group_lines m a = opening_lines m a ++ (forwards (names_of m) a (group_len m a - 1) (a + 1) ++ (statement_lines m a ++ ending_lines m a))

-- ---- the listing

-- with the constants of so many addresses
unfoldable pub listing_below : ℕ → MapView → List ListingLine
listing_below limit m = header_lines m.info.settings.cpu ++ (with_empty_line (constants m limit 0) ++ flat_map (group_lines m) (group_addresses m))

-- The lines of the listing.
unfoldable pub listing : MapView → List ListingLine
listing m = listing_below 65536 m

-- ---- the text

-- what a line holds besides its statement
abbrev pub remarks_of : Style → ListingLine → RemarksView
remarks_of t l = record { level = t.level; hexoffs = t.hexoffs; address = l.address; bytes = l.bytes; label = l.label }

-- a line as text, with its line feed
unfoldable pub line_text : Style → ListingLine → List ℕ
line_text t l = line_of t.columns l.statement (remarks_of t l) ++ 10 ∷ []

-- The lines of the listing as text.
unfoldable pub lines_of : MapView → List (List ℕ)
lines_of m = map (line_text (style_of m.info.settings)) (listing m)

-- lines one after the other
unfoldable pub text_of : List (List ℕ) → List ℕ
text_of lines = flat_map (λ line. line) lines
