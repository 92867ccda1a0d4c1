-- The program's command line.
use Rattle.std.specs.Prelude.{codes, map}
use Rattle.usage65.specs.Words.{ProgramView, row_of}
use Rattle.open65.specs.declared.command.TheConstants.{CHOICES}

-- the usage line, the options of the code's table, and a file
abbrev pub this_program : ProgramView
this_program = record { name = codes "open65"; usage = codes "Usage: open65 [options] input"; choices = map row_of CHOICES; input = codes "input" }
