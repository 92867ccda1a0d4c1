-- The program's command line.
use Rattle.std.specs.Prelude.{codes, map}
use Rattle.usage65.specs.Words.{ProgramView, row_of}
use Rattle.trace65.specs.declared.command.TheConstants.{CHOICES}

-- the usage line, the options of the code's table, and an optional image
abbrev pub this_program : ProgramView
this_program = record { name = codes "trace65"; usage = codes "Usage: trace65 [options] [image]"; choices = map row_of CHOICES; input = codes "image" }
