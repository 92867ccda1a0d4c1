-- What a run that is done wrote, assembled, gives back its image.
use Rattle.std.proofs.Common.{arith, ◌≡◌, ℕ, false, List, Option}
use Rattle.std.specs.Prelude.{IfOk, Result, Ok, Err}
use Rattle.std.specs.Io.KnownBytes.{Appends}
use Rattle.stmt65.specs.Words.{free, meaning}
use Rattle.stmt65.proofs.Public.{keeps_listings}
use Rattle.map65.specs.Words.{AreBytes, IsSoundMap, MapView}
use Rattle.da65.specs.Words.{RunFault, Status, Took, lines_of, skips, text_of}
use Rattle.da65.proofs.Blocks.TextLaws.{text_gives_image}

-- the lines of a map without skipped bytes were written, so the image is meant
pub lines_took : (m : MapView) (lines : List (List ℕ)) (old new : Option (List ℕ)) → IsSoundMap m → AreBytes m.image.bytes → lines ≡ lines_of m → Appends old new (text_of lines) → skips m ≡ false → Took m.image old new
lines_took m lines old new sound are l taken none =
    let means : meaning m.image.start (text_of lines) ≡ Ok m.image.bytes = grind (arith, text_gives_image) in
    record { text = text_of lines; taken = taken; means = means; repaired = keeps_listings free m.image.start (text_of lines) m.image.bytes means }

-- the same of a run that was done
pub listing_took : (result : Result Status RunFault) (m : MapView) (lines : List (List ℕ)) (old new : Option (List ℕ)) → IsSoundMap m → AreBytes m.image.bytes → lines ≡ lines_of m → Appends old new (text_of lines)
    → IfOk result (λ status. skips m ≡ false → Took m.image old new)
listing_took (Ok status) m lines old new sound are l taken = lines_took m lines old new sound are l taken
listing_took (Err fault) m lines old new sound are l taken = tt
