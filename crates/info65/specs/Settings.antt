-- The settings: what the command line gives wins over the groups GLOBAL, and these over the defaults.
use Rattle.std.specs.Prelude.{◌||◌, false, List}
use Rattle.std.specs.Option.{option_or, unwrap_or}
use Rattle.info65.specs.Types.{M6502}
use Rattle.info65.specs.Groups.{AssignmentView, GroupView, global_given, value_in}
use Rattle.info65.specs.IncludeGroups.{includes_of}
use Rattle.info65.specs.Labels.{by_address, names_said}
use Rattle.info65.specs.Ranges.{ranges_of}
use Rattle.info65.specs.Segments.{segments_of}
use Rattle.info65.specs.Values.{as_boolean, as_name, as_number, as_address, as_cpu}
use Rattle.info65.specs.Views.{InfoView, OptionsView, SettingsView}
use Rattle.info65.specs.declared.syntax.attribute.Attribute.TheVariants as attribute

-- the settings that options and the groups GLOBAL give
unfoldable pub settings_of : OptionsView → List AssignmentView → SettingsView
settings_of o given = record {
  input = option_or o.input (as_name (value_in attribute.InputName given));
  output = option_or o.output (as_name (value_in attribute.OutputName given));
  offset = unwrap_or (as_number (value_in attribute.InputOffset given)) 0;
  size = as_number (value_in attribute.InputSize given);
  start = option_or o.start (as_address (value_in attribute.StartAddress given));
  cpu = unwrap_or (option_or o.cpu (as_cpu (value_in attribute.Cpu given))) M6502;
  comments = unwrap_or (option_or o.comments (as_number (value_in attribute.Comments given))) 0;
  mnemonic_column = unwrap_or (option_or o.mnemonic_column (as_number (value_in attribute.MnemonicColumn given))) 9;
  argument_column = unwrap_or (option_or o.argument_column (as_number (value_in attribute.ArgumentColumn given))) 17;
  comment_column = unwrap_or (option_or o.comment_column (as_number (value_in attribute.CommentColumn given))) 49;
  text_column = unwrap_or (option_or o.text_column (as_number (value_in attribute.TextColumn given))) 81;
  label_break = unwrap_or (option_or o.label_break (as_number (value_in attribute.LabelBreak given))) 7;
  hexoffs = o.hexoffs || unwrap_or (as_boolean (value_in attribute.HexOffsets given)) false;
  newline_after_jmp = unwrap_or (as_boolean (value_in attribute.NewlineAfterJmp given)) false;
  newline_after_rts = unwrap_or (as_boolean (value_in attribute.NewlineAfterRts given)) false;
}

-- what groups say, merged with the options
abbrev pub info_of : OptionsView → List GroupView → InfoView
info_of o groups = record {
  settings = settings_of o (global_given groups);
  ranges = ranges_of groups;
  segments = segments_of groups;
  names = by_address (names_said groups);
  includes = includes_of groups;
}
