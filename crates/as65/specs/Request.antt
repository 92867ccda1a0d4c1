-- What a command line asks for.
use Rattle.std.specs.Prelude.{◌&&◌, ◌||◌, Bool, not, nat_eq, List, String, Option, Some, None, Result, Ok, Err, codes, drop, is_some, if◌then◌else◌}
use Rattle.std.specs.List.{list_any, starts_with, take_while}
use Rattle.std.specs.Str.{bytes_eq}
use Rattle.std.specs.String.{string_bytes}
use Rattle.clap.specs.Words.{Row, Text, first_of}
use Rattle.usage65.specs.Words.{BadUsage, LacksStart, FileNamesView, Refusal, TwoOfStandardInput, address_in, byte_in, given, info_named, input_named, is_set, is_taken, names_apart, names_seen, or_refused, output_named, ◌>>=◌}
use Rattle.as65.specs.Types.{Compare, Placement, Words, Work, Write}

-- a listing, the information file, the output, where the bytes belong, and whether the names are asked for
pub record Given : Type 0 where
  pub listing : Text
  pub info : Option Text
  pub output : Option Text
  pub place : Placement
  pub labels : Bool

-- what is asked for: the bytes of a listing or its names, or a comparison with an image
pub data WorkView : Type 0 where
  AskWrite : FileNamesView → Placement → Bool → WorkView
  AskCompare : FileNamesView → Placement → Text → WorkView

-- the work as what is asked for
abbrev pub work_of : Work → WorkView
work_of (Write w) = AskWrite (names_seen w.names) w.place w.labels
work_of (Compare c) = AskCompare (names_seen c.names) c.place (string_bytes c.image)

-- the bytes of a listing are to be written, or its names, which need not be in place: there is a start, or
-- an information file that may have one
unfoldable pub to_write : Given → Result WorkView Refusal
to_write g =
    if g.place.in_place && g.labels then Err (BadUsage Words)
    else (if not (is_some g.place.start || is_some g.info) then Err LacksStart
    else (names_apart g.listing g.info g.output >>= λ names. Ok (AskWrite names g.place g.labels)))

-- a listing is to be compared with an image, without another output or names, and not in place;
-- standard input can be only one of the inputs
unfoldable pub to_compare : Given → Text → Result WorkView Refusal
to_compare g image =
    if is_some g.output || g.place.in_place || g.labels then Err (BadUsage Words)
    else (if is_taken (Some g.listing) image || is_taken g.info image then Err TwoOfStandardInput
    else (names_apart g.listing g.info None >>= λ names. Ok (AskCompare names g.place image)))

-- with an image it is a comparison
abbrev pub work_beside : Given → Option Text → Result WorkView Refusal
work_beside g None = to_write g
work_beside g (Some image) = to_compare g (input_named (Some image))

-- the start and the byte are looked at before anything else
unfoldable pub work_in : List Row → Result WorkView Refusal
work_in rows =
    or_refused (given address_in (first_of (codes "start") rows)) >>= λ start.
    or_refused (given byte_in (first_of (codes "fill") rows)) >>= λ fill.
    work_beside (record {
      listing = input_named (first_of (codes "listing") rows);
      info = info_named (first_of (codes "info") rows);
      output = output_named (first_of (codes "output") rows);
      place = record { start = start; fill = fill; in_place = is_set (codes "in-place") rows };
      labels = is_set (codes "labels") rows;
    }) (first_of (codes "compare") rows)

-- `--compare`, with its image in the same word or in the next
abbrev pub is_compare_word : Text → Bool
is_compare_word word = bytes_eq word (codes "--compare") || starts_with nat_eq word (codes "--compare=")

-- whether a comparison is asked for, however well; after `--` there are names alone
abbrev pub is_comparing : {Z : Type 0} → List (String Z) → Bool
is_comparing words = list_any (λ word. is_compare_word (string_bytes word)) (take_while (λ word. not (bytes_eq (string_bytes word) (codes "--"))) (drop 1 words))
