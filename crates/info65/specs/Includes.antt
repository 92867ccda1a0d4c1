-- Include files: what a line of one says, and the names that a file of such lines adds.
--
-- A line says nothing, or gives a name its address; any other line is bad. A name whose address has one already adds
-- nothing. A file is refused for the first line that has a fault that counts, and then adds no name.
use Rattle.std.specs.Prelude.{◌+◌, ◌++◌, ◌==◌, ◌-◌, ◌&&◌, ℕ, Bool, true, false, List, [], ◌∷◌, Option, Some, None, Result, Ok, Err, drop, get_or, length, nat_le, nat_lt, option_map, option_to_list, take, if◌then◌else◌}
use Rattle.std.specs.Io.BufRead.{strip_last}
use Rattle.std.specs.List.{after_first, before_first, list_all, list_any, prefix_len, suffix_len}
use Rattle.text65.specs.Lines.{text_lines}
use Rattle.text65.specs.Names.{is_blank, is_word_byte}
use Rattle.info65.specs.Faults.{fault, ◌>>=◌}
use Rattle.info65.specs.Labels.{by_address, is_at, is_elsewhere, named}
use Rattle.info65.specs.Lexemes.{number_in, starts_word}
use Rattle.info65.specs.Names.{is_reserved}
use Rattle.info65.specs.Views.{IncludeView, InfoView, NameView}
use Rattle.info65.specs.Types.{BadInclude, BadName, InfoFault, InfoFaultKind, NameTwice, ReservedName, TooLarge}

-- ---- a line

-- a line without the one carriage return at its end, up to where its comment begins
unfoldable pub without_comment : ℕ → List ℕ → List ℕ
without_comment comment_start line = before_first (λ b. b == comment_start) (strip_last 13 line)

abbrev pub trimmed_end : List ℕ → List ℕ
trimmed_end bytes = take (length bytes - suffix_len is_blank bytes) bytes

-- the bytes without the blanks around them
unfoldable pub trimmed : List ℕ → List ℕ
trimmed bytes = trimmed_end (drop (prefix_len is_blank bytes) bytes)

-- a letter or `_`, then letters, digits and `_`
unfoldable pub is_identifier : List ℕ → Bool
is_identifier [] = false
is_identifier (b ∷ bs) = starts_word b && list_all is_word_byte bs

abbrev pub as_address : Option ℕ → Option ℕ
as_address None = None
as_address (Some n) = if nat_le n 0xFFFF then Some n else None

-- the address that a value writes: decimal digits, `$` (36) and hex digits, or `%` (37) and binary digits
unfoldable pub address_written : List ℕ → Option ℕ
address_written [] = None
address_written (b ∷ bs) =
    if b == 36 then as_address (number_in 16 bs)
    else (if b == 37 then as_address (number_in 2 bs)
    else as_address (number_in 10 (b ∷ bs)))

-- a name of one address, without a comment
abbrev pub plain_name : List ℕ → ℕ → NameView
plain_name text address = named address 1 None text

-- what stands before the first `=` (61), without the one `:` (58) at its end
abbrev pub before_sign : List ℕ → List ℕ
before_sign text = strip_last 58 (before_first (λ b. b == 61) text)

abbrev pub after_sign : List ℕ → List ℕ
after_sign text = after_first (λ b. b == 61) text

-- `name = value` or `name := value`, with blanks around each part
unfoldable pub assignment_in : List ℕ → Option NameView
assignment_in text =
    if is_identifier (trimmed (before_sign text))
    then option_map (plain_name (trimmed (before_sign text))) (address_written (trimmed (after_sign text)))
    else None

abbrev pub or_bad : Option NameView → Result (Option NameView) InfoFaultKind
or_bad None = Err BadInclude
or_bad (Some n) = Ok (Some n)

-- what a line says: nothing, or a name of an address; any other line is bad
unfoldable pub line_in : ℕ → List ℕ → Result (Option NameView) InfoFaultKind
line_in comment_start line =
    let text = without_comment comment_start line in
    if list_all is_blank text then Ok None else or_bad (assignment_in text)

-- ---- the names of a file

-- What a name adds to the names before it, or its fault. A name of an address that has a name adds nothing.
unfoldable pub name_adds : List NameView → NameView → Result (Option NameView) InfoFaultKind
name_adds names n =
    if nat_lt 80 (length n.text) then Err BadName
    else (if is_reserved n.address n.text then Err ReservedName
    else (if list_any (is_at n.address) names then Ok None
    else (if list_any (is_elsewhere n) names then Err NameTwice
    else Ok (Some n))))

abbrev pub optional_adds : List NameView → Result (Option NameView) InfoFaultKind → Result (Option NameView) InfoFaultKind
optional_adds names (Err f) = Err f
optional_adds names (Ok None) = Ok None
optional_adds names (Ok (Some n)) = name_adds names n

-- with IGNOREUNKNOWN a line that has a fault adds nothing
abbrev pub unless_ignored : Bool → ℕ → Result (Option NameView) InfoFaultKind → Result (Option NameView) InfoFault
unless_ignored ignore_unknown line (Ok added) = Ok added
unless_ignored true line (Err f) = Ok None
unless_ignored false line (Err f) = Err (fault line f)

-- what a line of this number adds to the names before it, or its fault
unfoldable pub line_adds : IncludeView → ℕ → List NameView → List ℕ → Result (Option NameView) InfoFault
line_adds i line names text = unless_ignored i.ignore_unknown line (optional_adds names (line_in i.comment_start text))

-- the names with those that the lines add, whose numbers begin here, or the first fault of a line
unfoldable pub names_with : IncludeView → ℕ → List NameView → List (List ℕ) → Result (List NameView) InfoFault
names_with i line names [] = Ok names
names_with i line names (l ∷ ls) = line_adds i line names l >>= λ added. names_with i (line + 1) (names ++ option_to_list added) ls

-- the names of a file of these bytes, by address, after those before it
unfoldable pub names_included : IncludeView → List NameView → List ℕ → Result (List NameView) InfoFault
names_included i names bytes =
    if nat_lt 1_048_576 (length bytes) then Err (fault 1 TooLarge)
    else names_with i 1 names (text_lines bytes) >>= λ all. Ok (by_address all)

-- ---- an information with the names of an include file

abbrev pub blank_include : IncludeView
blank_include = record { file = []; comment_start = 59; ignore_unknown = false }

abbrev pub with_names : InfoView → List NameView → InfoView
with_names i names = record i { names = names }

-- What an information says with the include file of this place, whose bytes these are, or the fault that
-- the file is refused for: a file above 1,048,576 bytes is too large, before all else.
unfoldable pub included : InfoView → ℕ → List ℕ → Result InfoView InfoFault
included i index bytes = names_included (get_or i.includes index blank_include) i.names bytes >>= λ names. Ok (with_names i names)
