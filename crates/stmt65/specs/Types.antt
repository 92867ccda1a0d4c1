-- The types of the code that these definitions speak of, from one place.
pub use Rattle.stmt65.specs.declared.assembling.about.Explained.{Explained}
pub use Rattle.stmt65.specs.declared.assembling.coding.Coded.{Coded}
pub use Rattle.stmt65.specs.declared.assembling.coding.Instruction.{Instruction}
pub use Rattle.stmt65.specs.declared.assembling.coding.Operand.{Operand}
pub use Rattle.stmt65.specs.declared.assembling.emit.Fit.{Fit}
pub use Rattle.stmt65.specs.declared.assembling.fault.AsmFault.{AsmFault}
pub use Rattle.stmt65.specs.declared.assembling.fault.AsmFaultKind.{AsmFaultKind}
pub use Rattle.stmt65.specs.declared.assembling.fault.AsmFaultKind.TheVariants.{DefinedTwice, Memory, NoSuchForm, OutOfRange, PastEnd, PastStart, Syntax, Undefined, UnknownCpu}
pub use Rattle.stmt65.specs.declared.assembling.late.Late.{Late}
pub use Rattle.stmt65.specs.declared.assembling.late.Outcome.{Outcome}
pub use Rattle.stmt65.specs.declared.assembling.late.Outcome.TheVariants.{Faulty, Settled, Waiting}
pub use Rattle.stmt65.specs.declared.assembling.late.Work.{Work}
pub use Rattle.stmt65.specs.declared.assembling.placed.Placed.{Placed}
pub use Rattle.stmt65.specs.declared.directive.Directive.{Directive}
pub use Rattle.stmt65.specs.declared.directive.Directive.TheVariants.{Addr, Dbyt, Dword}
pub use Rattle.stmt65.specs.declared.directive.TheConstants.{ALL}
pub use Rattle.stmt65.specs.declared.language.Language.{Language}
pub use Rattle.stmt65.specs.declared.language.Language.TheVariants.{Listing, Repair}
pub use Rattle.stmt65.specs.declared.printing.columns.Columns.{Columns}
pub use Rattle.stmt65.specs.declared.printing.columns.LimitError.{LimitError}
pub use Rattle.stmt65.specs.declared.printing.digits.Offsets.{Offsets}
pub use Rattle.stmt65.specs.declared.printing.digits.Offsets.TheVariants.{Decimal, Hexadecimal}
pub use Rattle.stmt65.specs.declared.printing.remarks.Remarks.{Remarks}
pub use Rattle.stmt65.specs.declared.reading.numeral.Numeral.{Numeral}
pub use Rattle.stmt65.specs.declared.source_line.AddressSize.{AddressSize}
pub use Rattle.stmt65.specs.declared.source_line.AddressSize.TheVariants.{Automatic}
pub use Rattle.stmt65.specs.declared.source_line.Half.TheVariants.{High, Low}
pub use Rattle.stmt65.specs.declared.source_line.Minus.{Minus}
pub use Rattle.stmt65.specs.declared.source_line.Minus.TheVariants.{Zero}
pub use Rattle.stmt65.specs.declared.source_line.Notation.{Notation}
pub use Rattle.stmt65.specs.declared.source_line.Notation.TheVariants.{AbsoluteX, AbsoluteY, Plain}
pub use Rattle.stmt65.specs.declared.statement.Expr.{Expr}
pub use Rattle.stmt65.specs.declared.statement.Operands.{Operands}
pub use Rattle.stmt65.specs.declared.statement.Target.{Target}
pub use Rattle.isa65.specs.declared.byte_order.ByteOrder.{ByteOrder}
pub use Rattle.isa65.specs.declared.byte_order.ByteOrder.TheVariants.{BigEndian, LittleEndian}
pub use Rattle.isa65.specs.declared.cpu.Cpu.{Cpu}
pub use Rattle.isa65.specs.declared.cpu.Cpu.TheVariants.{M6502}
pub use Rattle.isa65.specs.declared.mnemonic.Mnemonic.{Mnemonic}
pub use Rattle.isa65.specs.declared.mnemonic.Mnemonic.TheVariants.{Asl, Dec, Inc, Lsr, Rol, Ror}
pub use Rattle.isa65.specs.declared.mode.Mode.{Mode}
pub use Rattle.isa65.specs.declared.mode.Mode.TheVariants.{Abs, Absindx, Absx, Absy, Acc, Imm, Imp, Ind, Indx, Indy, Rel, Zp, Zpind, Zprel, Zpx, Zpy}
pub use Rattle.isa65.specs.declared.op.Op.{Op}
pub use Rattle.isa65.specs.declared.row.OperandKind.{OperandKind}
pub use Rattle.isa65.specs.declared.row.OperandKind.TheVariants.{Byte}
pub use Rattle.isa65.specs.declared.row.Pattern.{Pattern}
pub use Rattle.isa65.specs.declared.row.Pattern.TheVariants.{Direct, DirectX, DirectY, Immediate, Indirect, IndirectX, IndirectY}
pub use Rattle.isa65.specs.declared.row.Row.{Row}
pub use Rattle.isa65.specs.declared.row.Row.TheVariants.{Implied}
-- What they are said with: words of the crates below.
pub use Rattle.arrayvec.specs.ArrayVec.{Extends, array_vec_len}
pub use Rattle.isa65.specs.Words.{cpu_text, encoded, expression, len_of, pattern_text, row_of, row_text, table_of, text_of, written, zero_page_of, zero_page_row}
unfoldable pub use Rattle.isa65.specs.Words.{mnemonic_named}
pub use Rattle.text65.specs.Names.{is_blank, is_word_byte}
unfoldable pub use Rattle.text65.specs.Names.{has_name_form, is_reserved_word}
pub use Rattle.text65.specs.Digits.{digits4, hex_digit}
unfoldable pub use Rattle.text65.specs.Lines.{text_lines}
