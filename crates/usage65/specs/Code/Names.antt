-- What contracts see of texts, and of the names of files.
use Rattle.std.specs.Prelude.{List, Option, String, map, option_map}
use Rattle.std.specs.Borrow.{Bor}
use Rattle.std.specs.String.{string_bytes}
use Rattle.clap.specs.Words.{Text}
use Rattle.info65.specs.Words.{name_seen}
use Rattle.usage65.specs.Requests.{AskRun, AskText, Asked, FileNamesView}
use Rattle.usage65.specs.declared.names.FileNames.{FileNames}
use Rattle.usage65.specs.declared.request.Request.{Request}
use Rattle.usage65.specs.declared.request.Request.TheVariants.{Run, Text as TextOf}

-- a text that there may be
abbrev pub text_seen : Option (Bor Text) → Option Text
text_seen text = option_map (λ s. s.now) text

abbrev pub texts_seen : {Z : Type 0} → List (String Z) → List Text
texts_seen texts = map string_bytes texts

abbrev pub names_seen : FileNames → FileNamesView
names_seen n = record { listing = string_bytes n.listing; info = name_seen n.info; output = name_seen n.output }

-- a request as what it asks for, of which a run is seen by `seen`
abbrev pub asked_of : {X A : Type 0} → (X → A) → Request X → Asked A
asked_of seen (TextOf text) = AskText text.items
asked_of seen (Run x) = AskRun (seen x)
