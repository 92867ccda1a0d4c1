-- The types of the code that these definitions speak of, from one place.
pub use Rattle.info65.specs.declared.fault.InfoFault.{InfoFault}
pub use Rattle.info65.specs.declared.fault.InfoFaultKind.{InfoFaultKind}
pub use Rattle.info65.specs.declared.fault.InfoFaultKind.TheVariants.{AddressTwice, BadByte, BadInclude, BadName, BadNumber, Expected, GivenTwice, Missing, NameConflict, NameTwice, OpenString, OutOfRange, RangesOverlap, ReservedName, SegmentsOverlap, TooLarge, UnknownAttribute, UnknownGroup}
pub use Rattle.info65.specs.declared.groups.contents.Contents.{Contents}
pub use Rattle.info65.specs.declared.groups.include_groups.NamedFile.{NamedFile}
pub use Rattle.info65.specs.declared.groups.segment_groups.SegmentParts.{SegmentParts}
pub use Rattle.info65.specs.declared.information.name.Given.{Given}
pub use Rattle.info65.specs.declared.information.pool.Span.{Span}
pub use Rattle.info65.specs.declared.information.range.Entry.TheVariants.{Address, Character, Instruction, Number, Return, Skipped}
pub use Rattle.info65.specs.declared.information.range.Layout.{Layout}
pub use Rattle.info65.specs.declared.information.range.RangeSpec.{RangeSpec}
pub use Rattle.info65.specs.declared.information.range.RangeType.{RangeType}
pub use Rattle.info65.specs.declared.information.segment.SegmentSpec.{SegmentSpec}
pub use Rattle.info65.specs.declared.information.segment_table.Start.{Start}
pub use Rattle.info65.specs.declared.syntax.assignment.Assignment.{Assignment}
pub use Rattle.info65.specs.declared.syntax.assignment.Group.{Group}
pub use Rattle.info65.specs.declared.syntax.assignment.Value.{Value}
pub use Rattle.info65.specs.declared.syntax.attribute.Attribute.{Attribute}
pub use Rattle.info65.specs.declared.syntax.attribute.ValueForm.{ValueForm}
pub use Rattle.info65.specs.declared.syntax.attribute.GroupKind.{GroupKind}
pub use Rattle.info65.specs.declared.syntax.digits.TheConstants.{DIGITS}
pub use Rattle.info65.specs.declared.syntax.lexeme.Class.{Class}
pub use Rattle.info65.specs.declared.syntax.lexeme.Lexeme.{Lexeme}
pub use Rattle.info65.specs.declared.syntax.lexeme.TheConstants.{CLASSES}
pub use Rattle.info65.specs.declared.syntax.lexer.Next.{Next}
pub use Rattle.info65.specs.declared.syntax.token.Token.{Token}
pub use Rattle.info65.specs.declared.syntax.token.TokenKind.{TokenKind}
pub use Rattle.isa65.specs.declared.byte_order.ByteOrder.{ByteOrder}
pub use Rattle.isa65.specs.declared.byte_order.ByteOrder.TheVariants.{BigEndian, LittleEndian}
pub use Rattle.isa65.specs.declared.cpu.Cpu.{Cpu}
pub use Rattle.isa65.specs.declared.cpu.Cpu.TheVariants.{M6502}
