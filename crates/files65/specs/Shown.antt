-- A line as it is shown: its beginning, without the blanks around it, and with `?` for each control byte.
use Rattle.std.specs.Prelude.{◌++◌, ◌-◌, ◌||◌, ◌&&◌, ℕ, Bool, List, [], codes, drop, get_or, length, map, nat_le, nat_lt, take, if◌then◌else◌}
use Rattle.std.specs.Char.{is_ascii_control, is_ascii_whitespace}
use Rattle.std.specs.List.{prefix_len, suffix_len}
use Rattle.text65.specs.Lines.{text_lines}

-- line n of a text, from 1
abbrev pub line_at : ℕ → List ℕ → List ℕ
line_at n text = get_or (drop (n - 1) (text_lines text)) 0 []

-- two dots after what is not shown whole
abbrev pub dots_above : ℕ → ℕ → List ℕ
dots_above most len = if nat_lt most len then codes " .." else []

-- a control byte of a terminal: below a blank, $7F, or $80 to $9F
abbrev pub is_control : ℕ → Bool
is_control b = is_ascii_control b || nat_le 128 b && nat_le b 159

-- a control byte is shown as `?`
abbrev pub shown_byte : ℕ → ℕ
shown_byte b = if is_control b then 63 else b

-- without the blanks at its end
abbrev pub without_last_blanks : List ℕ → List ℕ
without_last_blanks line = take (length line - suffix_len is_ascii_whitespace line) line

-- without the blanks around it
abbrev pub trimmed : List ℕ → List ℕ
trimmed line = without_last_blanks (drop (prefix_len is_ascii_whitespace line) line)

-- at most 80 characters
unfoldable pub shown : List ℕ → List ℕ
shown line = map shown_byte (take 80 line) ++ dots_above 80 (length line)

-- the beginning of a line, without the blanks around it
abbrev pub shown_line : List ℕ → List ℕ
shown_line line = shown (trimmed line)
