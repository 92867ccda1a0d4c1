-- The names of files on a command line.
use Rattle.std.specs.Prelude.{◌&&◌, Bool, false, Option, Some, None, codes, if◌then◌else◌}
use Rattle.std.specs.Str.{bytes_eq}
use Rattle.clap.specs.Words.{Text}

-- the name of standard input
abbrev pub standard_input : Text
standard_input = codes "/dev/stdin"

-- `-` stands for a standard stream; a file of that name is `./-`
abbrev pub is_standard : Text → Bool
is_standard name = bytes_eq name (codes "-")

-- the name of what is read: `-`, and an input without a name, is standard input
abbrev pub input_named : Option Text → Text
input_named None = standard_input
input_named (Some name) = if is_standard name then standard_input else name

-- the name of the information file, if there is one
abbrev pub info_named : Option Text → Option Text
info_named None = None
info_named (Some name) = Some (input_named (Some name))

-- the name of the output; None is standard output
abbrev pub output_named : Option Text → Option Text
output_named None = None
output_named (Some name) = if is_standard name then None else Some name

-- whether this is the name that is given, if one is
abbrev pub is_name : Option Text → Text → Bool
is_name None name = false
is_name (Some given) name = bytes_eq given name

-- whether standard input would have to be this input and the information file
abbrev pub is_taken : Option Text → Text → Bool
is_taken info name = bytes_eq name standard_input && is_name info standard_input
