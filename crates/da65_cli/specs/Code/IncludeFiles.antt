-- What contracts see of an include file that was read.
use Rattle.std.specs.Prelude.{ℕ, Bool, List}
use Rattle.std.specs.Str.{bytes_eq}
use Rattle.std.specs.String.{string_bytes}
use Rattle.da65.specs.Words.{FileView}
use Rattle.da65_cli.specs.declared.include_files.Content.{Content}

abbrev pub content_seen : Content → FileView
content_seen c = record { name = string_bytes c.name; bytes = c.bytes.items }

abbrev pub has_name : List ℕ → Content → Bool
has_name name c = bytes_eq (string_bytes c.name) name
