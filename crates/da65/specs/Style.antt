-- What the settings say of the lines of a listing.
use Rattle.info65.specs.Words.{SettingsView}
use Rattle.da65.specs.Types.{Columns, Style}

-- where the fields of lines stand
abbrev pub columns_of : SettingsView → Columns
columns_of s = record { mnemonic = s.mnemonic_column; argument = s.argument_column; comment = s.comment_column; text = s.text_column; label_break = s.label_break }

-- that, how much is remarked, how offsets are written, and after which instructions an empty line stands
unfoldable pub style_of : SettingsView → Style
style_of s = record {
  cpu = s.cpu;
  columns = columns_of s;
  level = s.comments;
  hexoffs = s.hexoffs;
  after_jmp = s.newline_after_jmp;
  after_rts = s.newline_after_rts;
}
