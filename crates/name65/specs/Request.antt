-- What a command line asks for.
use Rattle.std.specs.Prelude.{ℕ, Bool, List, Option, Result, Ok, codes}
use Rattle.clap.specs.Words.{Row, first_of}
use Rattle.usage65.specs.Words.{FileNamesView, Refusal, address_in, byte_in, given, info_named, input_named, is_set, names_apart, names_seen, or_refused, output_named, ◌>>=◌}
use Rattle.name65.specs.declared.request.Naming.{Naming}

-- a listing by names: the names of files, the start, the byte between segments, whether unused names are left out, and
-- whether labels come before the names inside their instructions
pub record NamingView : Type 0 where
  pub names : FileNamesView
  pub start : Option ℕ
  pub fill : Option ℕ
  pub used : Bool
  pub labels_first : Bool

abbrev pub naming_of : Naming → NamingView
naming_of n = record { names = names_seen n.names; start = n.start; fill = n.fill; used = n.used; labels_first = n.labels_first }

-- the start and the byte are looked at before the names
unfoldable pub naming_in : List Row → Result NamingView Refusal
naming_in rows =
    or_refused (given address_in (first_of (codes "start") rows)) >>= λ start.
    or_refused (given byte_in (first_of (codes "fill") rows)) >>= λ fill.
    names_apart (input_named (first_of (codes "listing") rows)) (info_named (first_of (codes "info") rows)) (output_named (first_of (codes "output") rows)) >>= λ names.
    Ok (record { names = names; start = start; fill = fill; used = is_set (codes "used") rows; labels_first = is_set (codes "labels-first") rows })
