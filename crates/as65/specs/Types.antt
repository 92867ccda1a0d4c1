-- The types of the code that these definitions speak of, from one place.
pub use Rattle.as65.specs.declared.failure.Refused.{Refused}
pub use Rattle.as65.specs.declared.failure.Refused.TheVariants.{EmptyImage, LargeImage, Moved, OtherSize, Segment, ShortImage}
pub use Rattle.as65.specs.declared.moves.Label.{Label}
pub use Rattle.as65.specs.declared.origins.Reached.{Reached}
pub use Rattle.as65.specs.declared.request.Placement.{Placement}
pub use Rattle.as65.specs.declared.request.Work.{Work}
pub use Rattle.as65.specs.declared.request.Work.TheVariants.{Compare, Write}
pub use Rattle.as65.specs.declared.status.Ended.{Ended}
pub use Rattle.as65.specs.declared.status.Ended.TheVariants.{Differs, Done}
pub use Rattle.as65.specs.declared.stretches.Stretch.{Stretch}
pub use Rattle.files65.specs.declared.failure.Failure.{Failure}
pub use Rattle.files65.specs.declared.failure.Failure.TheVariants.{File, Memory, Own}
pub use Rattle.files65.specs.declared.fault.FileFault.TheVariants.{Writing}
pub use Rattle.map65.specs.declared.image.ImageFault.{ImageFault}
pub use Rattle.stmt65.specs.declared.assembling.assembler.Source.{Source}
pub use Rattle.stmt65.specs.declared.assembling.fault.AsmFault.{AsmFault}
pub use Rattle.usage65.specs.declared.fault.UsageFault.TheVariants.{Words}
