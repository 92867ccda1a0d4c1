-- What ties the code to the rules: how it passes over the lines of a text, and what its values stand for.
use Rattle.std.specs.Prelude.{◌≡◌, ℕ, List, [], drop, get_or, nat_le, option_map}
use Rattle.std.specs.List.{prefix_len}
use Rattle.text65.specs.Lines.{text_lines}
use Rattle.files65.specs.Shown.{trimmed}
use Rattle.as65.specs.Request.{Given}
use Rattle.as65.specs.Types.{Reached}
use Rattle.as65.specs.declared.request.Given.{Given as CodeGiven}

-- a line of these, with what follows it, and as it is shown
pub record IsReached (lines : List (List ℕ)) (r : Reached) : Type 0 where
  pub rest : text_lines r.rest.now ≡ drop r.above lines
  pub line : r.line.now ≡ trimmed (get_or lines r.above [])

-- how many lines end at an address or before it, by the address after each
unfoldable pub ended : ℕ → List ℕ → ℕ
ended address ends = prefix_len (λ a. nat_le a address) ends

-- what is given, as the rules see it
abbrev pub given_of : CodeGiven → Given
given_of g = record { listing = g.listing.now; info = option_map (λ s. s.now) g.info; output = option_map (λ s. s.now) g.output; place = g.place; labels = g.labels }
