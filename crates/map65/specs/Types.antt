-- The types of the code that these definitions speak of, from one place.
pub use Rattle.map65.specs.declared.devices.taking.TakeFault.{TakeFault}
pub use Rattle.map65.specs.declared.devices.told.Told.{Told}
pub use Rattle.map65.specs.declared.image.ImageFault.{ImageFault}
pub use Rattle.map65.specs.declared.image.ImageFault.TheVariants.{Empty, Short, TooLarge}
pub use Rattle.map65.specs.declared.name.NameKind.{NameKind}
pub use Rattle.map65.specs.declared.name.Place.{Place}
pub use Rattle.map65.specs.declared.name.Place.TheVariants.{Constant, Forward, Label}
pub use Rattle.info65.specs.declared.information.range.Entry.{Entry}
pub use Rattle.info65.specs.declared.information.range.Entry.TheVariants.{Skipped}
pub use Rattle.info65.specs.declared.information.range.RangeSpec.{RangeSpec}
pub use Rattle.info65.specs.declared.information.range.RangeType.{RangeType}
pub use Rattle.info65.specs.declared.information.range.RangeType.TheVariants.{Code}
pub use Rattle.isa65.specs.declared.mnemonic.Mnemonic.{Mnemonic}
pub use Rattle.isa65.specs.declared.mnemonic.Mnemonic.TheVariants.{Jmp, Jsr}
pub use Rattle.isa65.specs.declared.mode.Mode.{Mode}
pub use Rattle.isa65.specs.declared.op.Op.{Op}
pub use Rattle.isa65.specs.declared.row.OperandKind.TheVariants.{Distance, Word}
pub use Rattle.isa65.specs.declared.row.Pattern.{Pattern}
pub use Rattle.isa65.specs.declared.row.Pattern.TheVariants.{Direct}
pub use Rattle.isa65.specs.declared.row.Row.{Row}
pub use Rattle.isa65.specs.declared.row.Row.TheVariants.{One, Two}
