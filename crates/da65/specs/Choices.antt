-- The program's command line.
use Rattle.std.specs.Prelude.{ℕ, [], ◌∷◌, None, Option, Some, codes}
use Rattle.clap.specs.Words.{App, Text}
use Rattle.usage65.specs.Words.{ChoiceView, ProgramView, command_of}

-- the letter of a text of one letter
abbrev letter : Text → Option ℕ
letter [] = None
letter (c ∷ cs) = Some c

abbrev pub info_choice : ChoiceView
info_choice = record { id = codes "info"; short = letter (codes "i"); long = Some (codes "info"); value = Some (codes "name"); purpose = codes "information file" }

abbrev pub output_choice : ChoiceView
output_choice = record { id = codes "output"; short = letter (codes "o"); long = None; value = Some (codes "name"); purpose = codes "output file" }

abbrev pub start_choice : ChoiceView
start_choice = record { id = codes "start"; short = letter (codes "S"); long = Some (codes "start-addr"); value = Some (codes "addr"); purpose = codes "start address" }

abbrev pub cpu_choice : ChoiceView
cpu_choice = record { id = codes "cpu"; short = None; long = Some (codes "cpu"); value = Some (codes "type"); purpose = codes "6502, 65SC02 or 65C02" }

-- an option that takes a number
abbrev number_choice : Text → Text → ChoiceView
number_choice long purpose = record { id = long; short = None; long = Some long; value = Some (codes "n"); purpose = purpose }

abbrev pub comments_choice : ChoiceView
comments_choice = number_choice (codes "comments") (codes "comment level, 0 to 4")

abbrev pub mnemonic_column_choice : ChoiceView
mnemonic_column_choice = number_choice (codes "mnemonic-column") (codes "column of mnemonics")

abbrev pub argument_column_choice : ChoiceView
argument_column_choice = number_choice (codes "argument-column") (codes "column of operands")

abbrev pub comment_column_choice : ChoiceView
comment_column_choice = number_choice (codes "comment-column") (codes "column of remarks")

abbrev pub text_column_choice : ChoiceView
text_column_choice = number_choice (codes "text-column") (codes "column of characters")

abbrev pub label_break_choice : ChoiceView
label_break_choice = number_choice (codes "label-break") (codes "longest label before a line break")

abbrev pub hexoffs_choice : ChoiceView
hexoffs_choice = record { id = codes "hexoffs"; short = None; long = Some (codes "hexoffs"); value = None; purpose = codes "offsets in hexadecimal" }

abbrev pub help_choice : ChoiceView
help_choice = record { id = codes "help"; short = letter (codes "h"); long = Some (codes "help"); value = None; purpose = codes "this text" }

abbrev pub version_choice : ChoiceView
version_choice = record { id = codes "version"; short = letter (codes "V"); long = Some (codes "version"); value = None; purpose = codes "version" }

-- the id of the input name, which is no option
abbrev pub input_id : Text
input_id = codes "input"

-- the usage line, the options in the order of the help text, and an optional input name
abbrev pub this_program : ProgramView
this_program = record {
  name = codes "da65";
  usage = codes "Usage: da65 [options] [inputfile]";
  choices = info_choice ∷ output_choice ∷ start_choice ∷ cpu_choice ∷ comments_choice ∷ mnemonic_column_choice ∷ argument_column_choice
      ∷ comment_column_choice ∷ text_column_choice ∷ label_break_choice ∷ hexoffs_choice ∷ help_choice ∷ version_choice ∷ [];
  input = input_id;
}

-- the command: each option of the table, and an optional input name; each may be given once
abbrev pub app : App
app = command_of this_program
