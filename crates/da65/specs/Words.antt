-- The words of clauses and proofs, here and in the crates above, from one place.
pub use Rattle.da65.specs.Types.{Address, ByteOrder, Character, Constant, Cpu, Directive, Ending, Entered, Header, InfoFault, Instruction, ListingPlace, LittleEndian, Messages, Mode, NameKind, Number, Op, OperandKind, Place, RangeSpec, RangeType, Return, Row, RunFault, Skipped, Status, Stop, Style, Write}
pub use Rattle.da65.specs.BaseNames.{AreSound, IsBaseOf, AddressNames, base_name, is_base, is_constant, is_own, names_of}
pub use Rattle.da65.specs.Choices.{app, this_program}
pub use Rattle.da65.specs.Code.Bases.{constant_offset, is_own_name, target_at}
pub use Rattle.da65.specs.Code.Layout.{IsLayout}
pub use Rattle.da65.specs.Code.ListedGroups.{AreOperandsIn, HasNoneBefore, IsForwardLine, IsGroupIn, IsGroupLine, IsGroupNext, IsHeading, IsInstructionIn, IsNextFrom, IsSegmentLine, IsStatementOf, IsUnnamed, labelled_group, operand_in, operands_at}
pub use Rattle.da65.specs.Code.NamedCells.{is_unnamed, unnamed_len}
pub use Rattle.da65.specs.Code.Preparing.{AddsNames, IsNameAt, NamesAll, Prepares, PreparesBy, PreparesWith, Stops, StopsFor, listed_by}
pub use Rattle.da65.specs.Code.Refusals.{RefusesOrGivesUp, Tells}
pub use Rattle.da65.specs.Code.SegmentReentry.{AreEnteredBefore, HasNameToo, IsAfter, has_had, has_name}
pub use Rattle.da65.specs.Comments.{comment_by}
unfoldable pub use Rattle.da65.specs.Comments.{comment_at}
pub use Rattle.da65.specs.Files.{FileView, files_seen}
unfoldable pub use Rattle.da65.specs.Files.{file_named}
pub use Rattle.da65.specs.Groups.{BeginsItem, IsGroupPlace, group_bytes, is_defined, is_skip_range, is_whole, limit_at, limit_of}
unfoldable pub use Rattle.da65.specs.Groups.{begins, goes_on, group_addresses, group_len, groups_from, more_at, skips, stride_at}
pub use Rattle.da65.specs.Instructions.{whole_in}
unfoldable pub use Rattle.da65.specs.Instructions.{instruction_in}
pub use Rattle.da65.specs.KnownNames.{Knows, KnowsAll, KnowsConstants, definition_of, definitions_of}
pub use Rattle.da65.specs.Lines.{AreUnnamed, IsAssignmentNext, IsConstant, IsConstantNext, IsFirstOf, IsGroupStart, IsHeaderLine, IsLabelNext, IsNext, IsPlace, IsUnmarked, LeadsTo, MayBeConstantNext, MayBeNext, MayBeNextAt, PassesAll, PassesOver, PassesTo, heading_count, headings_from, left_from, lines_from, segment_line, with_blank_after}
unfoldable pub use Rattle.da65.specs.Lines.{after_group, constants_left, group_left, groups_left, heading_lines}
pub use Rattle.da65.specs.Listing.{ListingLine, assignment_line, comment_line, comment_lines, comments, constant_lines, constants, forward_line, forward_lines, forwards, group_line, has_constant_line, has_empty_line, has_separator, header_lines, label_at, labelled, plain, separator_lines, with_empty_line}
unfoldable pub use Rattle.da65.specs.Listing.{ending_lines, group_lines, line_text, lines_of, listing, listing_below, opening_lines, segment_lines, separator, statement_lines, text_of}
pub use Rattle.da65.specs.Marks.{has_comment, has_marks}
pub use Rattle.da65.specs.NeededFiles.{needs_in, needs_of, nothing}
pub use Rattle.da65.specs.Outcome.{Outcome, done, or_message, outcome_by, outcome_of, prepared, refusal_with, warnings, warnings_for, with_all_includes, with_file, with_include, with_input, ◌>>=◌}
unfoldable pub use Rattle.da65.specs.Outcome.{image_message, include_message, info_message, missing_message, no_input_message, prepared_by, with_includes}
pub use Rattle.da65.specs.ReassemblyLaw.{ExpressionsHaveTheirValues, GivesBytes, GroupGivesItsBytes, GroupsAreGroups, IsGroup, IsWritten, ItemGivesItsBytes, ListingGivesImage, ModeIsChosenBack, NamesAreDefinedOnce, NamesAreSound, TargetIsInRange, TextGivesImage, UnwrittenIsBytes, fragments_in, item_in, operand_fragment, reading_of_line, readings_of, row_fragments}
pub use Rattle.da65.specs.RunLaw.{Reassembles, Took, TookImage, TookImageOf}
pub use Rattle.da65.specs.Running.{FailsAtMostOnce, InputCount, KeepsAt, KeepsIfRefused, MessagesCount, OfBytes, OfInput, OfRead, OutCount, ReadsFor, Writes, WritesFew}
pub use Rattle.da65.specs.SegmentReentry.{is_among, leads_back, segment_name}
unfoldable pub use Rattle.da65.specs.SegmentReentry.{enters_again, is_entered_again}
pub use Rattle.da65.specs.Segments.{is_same_segment, segment_statement}
unfoldable pub use Rattle.da65.specs.Segments.{segment_before}
pub use Rattle.da65.specs.Shapes.{AreEntries, IsGroupOf}
pub use Rattle.da65.specs.Statements.{bytes_statement, constant_base, directive_of, entries_or_byte, expr_from, is_forced, numbers, operand_expr, row_operands, statement_at, statement_by, statement_of, target_by, written}
unfoldable pub use Rattle.da65.specs.Statements.{address_entry, address_expr, operands_of, return_entry, statement_for, statement_in, zero_page_expr}
pub use Rattle.da65.specs.Style.{columns_of}
unfoldable pub use Rattle.da65.specs.Style.{style_of}
unfoldable pub use Rattle.da65.specs.Usage.{layout_in, options_in, usage_of}
pub use Rattle.da65.specs.declared.listing.constant_lines.TheConstants.{BLOCK}
pub use Rattle.info65.specs.declared.information.range.RangeType.TheVariants.{AddrTable, RtsTable, Skip, TextTable}
pub use Rattle.info65.specs.declared.information.segment.SegmentSpec.{SegmentSpec}
pub use Rattle.isa65.specs.declared.cpu.Cpu.TheVariants.{M6502}
pub use Rattle.isa65.specs.declared.mnemonic.Mnemonic.{Mnemonic}
pub use Rattle.isa65.specs.declared.mode.Mode.TheVariants.{Zprel}
pub use Rattle.isa65.specs.declared.row.Pattern.{Pattern}
pub use Rattle.isa65.specs.declared.row.Pattern.TheVariants.{Direct}
pub use Rattle.isa65.specs.declared.row.Row.TheVariants.{Two}
pub use Rattle.stmt65.specs.declared.assembling.fault.AsmFault.{AsmFault}
pub use Rattle.stmt65.specs.declared.assembling.fault.AsmFaultKind.{AsmFaultKind}
pub use Rattle.stmt65.specs.declared.directive.Directive.TheVariants.{Addr}
pub use Rattle.stmt65.specs.declared.language.Language.TheVariants.{Listing}
pub use Rattle.stmt65.specs.declared.source_line.AddressSize.{AddressSize}
pub use Rattle.stmt65.specs.declared.source_line.AddressSize.TheVariants.{Absolute, Automatic}
pub use Rattle.stmt65.specs.declared.source_line.Minus.TheVariants.{Zero}
