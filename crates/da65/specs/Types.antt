-- The types of the code that these definitions speak of, from one place.
pub use Rattle.da65.specs.declared.listing.place.ListingPlace.{ListingPlace}
pub use Rattle.da65.specs.declared.listing.place.ListingPlace.TheVariants.{Constant, Ending, Header, Heading}
pub use Rattle.da65.specs.declared.listing.style.Style.{Style}
pub use Rattle.da65.specs.declared.runs.files.File.{File}
pub use Rattle.da65.specs.declared.runs.outcome.RunFault.{RunFault}
pub use Rattle.da65.specs.declared.runs.outcome.RunFault.TheVariants.{Messages, Write}
pub use Rattle.da65.specs.declared.runs.outcome.Status.{Status}
pub use Rattle.da65.specs.declared.runs.outcome.Status.TheVariants.{Done}
pub use Rattle.da65.specs.declared.runs.preparing.Stop.{Stop}
pub use Rattle.da65.specs.declared.runs.segment_reentry.Entered.{Entered}
pub use Rattle.info65.specs.declared.fault.InfoFault.{InfoFault}
pub use Rattle.info65.specs.declared.information.range.Entry.TheVariants.{Address, Character, Instruction, Number, Return, Skipped}
pub use Rattle.info65.specs.declared.information.range.RangeSpec.{RangeSpec}
pub use Rattle.info65.specs.declared.information.range.RangeType.{RangeType}
pub use Rattle.isa65.specs.declared.byte_order.ByteOrder.{ByteOrder}
pub use Rattle.isa65.specs.declared.byte_order.ByteOrder.TheVariants.{BigEndian, LittleEndian}
pub use Rattle.isa65.specs.declared.cpu.Cpu.{Cpu}
pub use Rattle.isa65.specs.declared.mnemonic.Mnemonic.TheVariants.{Jmp, Rts}
pub use Rattle.isa65.specs.declared.mode.Mode.{Mode}
pub use Rattle.isa65.specs.declared.op.Op.{Op}
pub use Rattle.isa65.specs.declared.row.OperandKind.{OperandKind}
pub use Rattle.isa65.specs.declared.row.Row.{Row}
pub use Rattle.map65.specs.declared.image.ImageFault.{ImageFault}
pub use Rattle.map65.specs.declared.image.ImageFault.TheVariants.{Empty, Read, Short, TooLarge}
pub use Rattle.map65.specs.declared.name.NameKind.{NameKind}
pub use Rattle.map65.specs.declared.name.Place.{Place}
pub use Rattle.stmt65.specs.declared.directive.Directive.{Directive}
pub use Rattle.stmt65.specs.declared.directive.Directive.TheVariants.{Dbyt, Dword}
pub use Rattle.stmt65.specs.declared.language.Language.TheVariants.{Repair}
pub use Rattle.stmt65.specs.declared.printing.columns.Columns.{Columns}
pub use Rattle.usage65.specs.declared.fault.UsageFault.{UsageFault}
