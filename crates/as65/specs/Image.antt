-- Why bytes are no image to compare with.
use Rattle.std.specs.Prelude.{◌≡◌, Result, Err}
use Rattle.map65.specs.Words.{ImageView}
use Rattle.as65.specs.Types.{EmptyImage, Failure, File, ImageFault, LargeImage, Memory, Own, Refused, ShortImage}
use Rattle.map65.specs.declared.image.ImageFault.TheVariants as fault

-- the failure says why there is none, unless memory ran out
abbrev pub IsNoImage : Result ImageView ImageFault → Failure Refused → Type 0
IsNoImage image Memory = Unit {0}
IsNoImage image (Own EmptyImage) = image ≡ Err fault.Empty
IsNoImage image (Own ShortImage) = image ≡ Err fault.Short
IsNoImage image (Own LargeImage) = image ≡ Err fault.TooLarge
IsNoImage image (File unread) = image ≡ Err fault.Read
IsNoImage image _ = ⊥

-- the failure of a fault
abbrev pub IsFailureOf : ImageFault → Failure Refused → Type 0
IsFailureOf fault.Memory failure = failure ≡ Memory
IsFailureOf fault failure = IsNoImage (Err fault) failure
