-- The program's command line.
use Rattle.std.specs.Prelude.{codes, map}
use Rattle.usage65.specs.Words.{ProgramView, row_of}
use Rattle.html65.specs.declared.command.TheConstants.{CHOICES}

-- the usage line, the options of the code's table, and an optional listing
abbrev pub this_program : ProgramView
this_program = record { name = codes "html65"; usage = codes "Usage: html65 [options] [listing]"; choices = map row_of CHOICES; input = codes "listing" }
