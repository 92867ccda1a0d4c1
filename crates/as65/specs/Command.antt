-- The program's command line.
use Rattle.std.specs.Prelude.{◌++◌, codes, map}
use Rattle.usage65.specs.Words.{ProgramView, row_of, with_line_feed}
use Rattle.as65.specs.declared.command.TheConstants.{CHOICES}

-- what listings are and the usage line, the options of the code's table, and an optional listing
abbrev pub this_program : ProgramView
this_program = record {
  name = codes "as65";
  usage = with_line_feed (codes "as65 reads ca65's language as far as listings need it; for everything else there is ca65.")
      ++ codes "Usage: as65 [options] [listing]";
  choices = map row_of CHOICES;
  input = codes "listing";
}
