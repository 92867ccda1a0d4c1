-- The program's command line.
use Rattle.std.specs.Prelude.{codes, map}
use Rattle.usage65.specs.Words.{ProgramView, row_of}
use Rattle.name65.specs.declared.command.TheConstants.{CHOICES}

-- the usage line, the options of the code's table, and an optional listing
abbrev pub this_program : ProgramView
this_program = record { name = codes "name65"; usage = codes "Usage: name65 [options] [listing]"; choices = map row_of CHOICES; input = codes "listing" }
