-- A line is read as r exactly where it is a spelling of r.
use Rattle.stmt65.proofs.Lemmas.{refl, same_Some, sym, ◌∙◌}
use Rattle.stmt65.specs.Words.{IsSpelling, Listing, ReadsLines, ReadsSpellings, SpellsOne, parts, reading_of}
use Rattle.stmt65.proofs.SpacingLemmas.{takes_parts}
use Rattle.stmt65.proofs.ReadIsSpelled.{at, reading_read}
use Rattle.stmt65.proofs.SpelledIsRead.{listing_again}

pub reads_spellings : ReadsSpellings
reads_spellings ps r = (λ e. at (λ r. IsSpelling r ps) (reading_of Listing ps) r e (reading_read ps), λ h. listing_again r ps h)

pub spells_one : SpellsOne
spells_one ps r s h g = same_Some r s (sym (listing_again r ps h) ∙ listing_again s ps g)

pub reads_lines : ReadsLines
reads_lines line r = (
  λ e. (parts Listing line, (takes_parts line (parts Listing line)).0 refl, (reads_spellings (parts Listing line) r).0 e),
  λ h. (reads_spellings (parts Listing line) r).1 (rw ((takes_parts line h.0).1 h.1) h.2),
)
