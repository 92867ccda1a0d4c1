-- What a command line asks for.
use Rattle.std.specs.Prelude.{ℕ, List, Option, Result, Ok, codes}
use Rattle.clap.specs.Words.{Row, first_of}
use Rattle.usage65.specs.Words.{FileNamesView, Refusal, address_in, byte_in, given, info_named, input_named, names_apart, names_seen, or_refused, output_named, ◌>>=◌}
use Rattle.html65.specs.declared.request.Showing.{Showing}

-- a page: the names of files, the start, and the byte between segments
pub record ShowingView : Type 0 where
  pub names : FileNamesView
  pub start : Option ℕ
  pub fill : Option ℕ

abbrev pub shown_of : Showing → ShowingView
shown_of s = record { names = names_seen s.names; start = s.start; fill = s.fill }

-- the start and the byte are looked at before the names
unfoldable pub shown_in : List Row → Result ShowingView Refusal
shown_in rows =
    or_refused (given address_in (first_of (codes "start") rows)) >>= λ start.
    or_refused (given byte_in (first_of (codes "fill") rows)) >>= λ fill.
    names_apart (input_named (first_of (codes "listing") rows)) (info_named (first_of (codes "info") rows)) (output_named (first_of (codes "output") rows)) >>= λ names.
    Ok (record { names = names; start = start; fill = fill })
