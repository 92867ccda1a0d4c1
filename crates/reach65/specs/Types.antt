-- The types of the code that these definitions speak of, from one place.
pub use Rattle.info65.specs.declared.information.range.RangeSpec.{RangeSpec}
pub use Rattle.info65.specs.declared.information.range.RangeType.{RangeType}
pub use Rattle.info65.specs.declared.tags.tag.Tag.{Tag}
pub use Rattle.info65.specs.declared.tags.tag.TagKind.{TagKind}
pub use Rattle.isa65.specs.declared.mnemonic.Mnemonic.{Mnemonic}
pub use Rattle.isa65.specs.declared.mnemonic.Mnemonic.TheVariants.{Bra, Brk, Jmp, Jsr, Rti, Rts}
pub use Rattle.isa65.specs.declared.mode.Mode.{Mode}
pub use Rattle.isa65.specs.declared.op.Op.{Op}
pub use Rattle.isa65.specs.declared.row.OperandKind.TheVariants.{Word}
pub use Rattle.isa65.specs.declared.row.Pattern.TheVariants.{Direct}
pub use Rattle.isa65.specs.declared.row.Row.{Row}
pub use Rattle.isa65.specs.declared.row.Row.TheVariants.{One}
pub use Rattle.reach65.specs.declared.steps.Step.{Step}
