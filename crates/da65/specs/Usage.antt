-- The options of a command line.
use Rattle.std.specs.Prelude.{ℕ, List, Result, Ok}
use Rattle.clap.specs.Words.{Row, Text, first_of}
use Rattle.info65.specs.Words.{OptionsView}
use Rattle.da65.specs.Choices.{app, argument_column_choice, comment_column_choice, comments_choice, cpu_choice, help_choice, hexoffs_choice, info_choice, input_id, label_break_choice, mnemonic_column_choice, output_choice, start_choice, text_column_choice, version_choice}
use Rattle.usage65.specs.Words.{accepted, address_in, cpu_in, decimal_in, given, is_set, ◌>>=◌}
use Rattle.da65.specs.declared.command_line.usage.Layout.{Layout}
use Rattle.da65.specs.Types.{UsageFault}

-- a comment level
abbrev pub level_in : Text → Result ℕ UsageFault
level_in text = decimal_in 0 4 text

-- a column
abbrev pub column_in : Text → Result ℕ UsageFault
column_in text = decimal_in 1 120 text

-- the length of the longest label that stands on the line of its statement
abbrev pub label_break_in : Text → Result ℕ UsageFault
label_break_in text = decimal_in 0 120 text

-- how a listing is laid out by the matches, or the first fault in the order of the option table
unfoldable pub layout_in : List Row → Result Layout UsageFault
layout_in rows = do
  comments ← given level_in (first_of comments_choice.id rows)
  mnemonic_column ← given column_in (first_of mnemonic_column_choice.id rows)
  argument_column ← given column_in (first_of argument_column_choice.id rows)
  comment_column ← given column_in (first_of comment_column_choice.id rows)
  text_column ← given column_in (first_of text_column_choice.id rows)
  label_break ← given label_break_in (first_of label_break_choice.id rows)
  Ok (record {
    comments = comments;
    mnemonic_column = mnemonic_column;
    argument_column = argument_column;
    comment_column = comment_column;
    text_column = text_column;
    label_break = label_break;
  })

-- the options of the matches, or the first fault in the order of the option table
unfoldable pub options_in : List Row → Result OptionsView UsageFault
options_in rows = do
  start ← given address_in (first_of start_choice.id rows)
  cpu ← given cpu_in (first_of cpu_choice.id rows)
  layout ← layout_in rows
  Ok (record {
    info = first_of info_choice.id rows;
    input = first_of input_id rows;
    output = first_of output_choice.id rows;
    start = start;
    cpu = cpu;
    comments = layout.comments;
    mnemonic_column = layout.mnemonic_column;
    argument_column = layout.argument_column;
    comment_column = layout.comment_column;
    text_column = layout.text_column;
    label_break = layout.label_break;
    hexoffs = is_set hexoffs_choice.id rows;
    help = is_set help_choice.id rows;
    version = is_set version_choice.id rows;
  })

-- the options of the words, of which the first is the program's name
unfoldable pub usage_of : List Text → Result OptionsView UsageFault
usage_of words = accepted app words >>= options_in
