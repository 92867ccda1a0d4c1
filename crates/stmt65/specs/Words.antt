-- The words of clauses and proofs, here and in the crates above, from one place.
pub use Rattle.stmt65.specs.Types.{ALL, Addr, AddressSize, AsmFault, AsmFaultKind, Automatic, Coded, Columns, Dbyt, Directive, Dword, Fit, High, Language, Late, Listing, Low, Minus, Plain, Repair, Settled, Work, Zero}
-- those of isa65, of text65 and of arrayvec
pub use Rattle.stmt65.specs.Types.{Abs, Absindx, Absx, Absy, Acc, Asl, BigEndian, ByteOrder, Cpu, Direct, DirectX, DirectY, Imm, Immediate, Imp, Inc, Ind, Indirect, IndirectX, IndirectY, Indx, Indy, LittleEndian, M6502, Mnemonic, Mode, OperandKind, Rel, Ror, Row, Zp, Zpind, Zprel, Zpx, Zpy, cpu_text, encoded, len_of, row_of, row_text, table_of, text_of, written, zero_page_of, zero_page_row}
pub use Rattle.stmt65.specs.Types.{digits4, hex_digit, is_blank, is_word_byte}
pub use Rattle.stmt65.specs.Types.{Extends, array_vec_len}
unfoldable pub use Rattle.stmt65.specs.Types.{has_name_form, is_reserved_word, mnemonic_named, text_lines}
pub use Rattle.stmt65.specs.Answer.{Assembles, IsExplained, out_of_memory}
pub use Rattle.stmt65.specs.Code.CodingViews.{Adds, AddsOne, Emits, IsFirstOf, IsFirstWay, Puts, PutsAll, coded_of, data_fragments, entry_fragments, fragment_of, instruction_of, operand_of}
pub use Rattle.stmt65.specs.Code.Found.{Eats, Gives, GivesIfOk, Reads}
pub use Rattle.stmt65.specs.Code.Held.{capped, held}
pub use Rattle.stmt65.specs.Code.LateViews.{AreFirstOf, Codes, Follows, GoesOn, IsFaulty, IsIdle, IsLeft, IsOf, IsPassed, IsSound, Keeps, PassesOver, Takes, late_line, said_of, state_in, work_end, work_of}
unfoldable pub use Rattle.stmt65.specs.Code.LateViews.{Settles, coded_late, fronts}
pub use Rattle.stmt65.specs.Code.LineEnds.{ends_left}
pub use Rattle.stmt65.specs.Code.LineViews.{Appends, Lists, Prints, len_with}
pub use Rattle.stmt65.specs.Code.MeaningViews.{IsCoding, Place, below_place, definitions_in, fault_by, fault_with, fragments_in, held_definition, held_definitions, is_named_in, line_in, line_operation, line_then, place_of, state_of}
unfoldable pub use Rattle.stmt65.specs.Code.MeaningViews.{bytes_at, fault_at, held_after, held_coded, held_final, place_in}
pub use Rattle.stmt65.specs.Code.PartViews.{cut_by, part_of}
pub use Rattle.stmt65.specs.Code.SourceLineViews.{datum_of, numeral_of, source_of, value_of}
pub use Rattle.stmt65.specs.Code.StatementViews.{expr_seen, in_hex, operands_seen, remarks_seen, statement_seen, target_seen}
pub use Rattle.stmt65.specs.Code.SymbolViews.{definition_of}
unfoldable pub use Rattle.stmt65.specs.Code.SymbolViews.{first_at}
pub use Rattle.stmt65.specs.Code.Widths.{AreBytes, AreWordWide, IsInWidth, IsWordWide}
pub use Rattle.stmt65.specs.Coding.{Distance, Entry, Fill, Fixed, Fragment, Oversized, Single, State, Way, ZeroPage, byte_fragment, datum_fragments, distance, entry_bytes, entry_limit, first_way, fragment_len, gap, half_of, is_fragment_known, is_near, is_short, kind_fragment, low, modes_in, or_zero, way_in, word_operand, zero_page}
unfoldable pub use Rattle.stmt65.specs.Coding.{coding, coding_len, entry_in, fragment_bytes, fragment_fits, ways}
pub use Rattle.stmt65.specs.Columns.{fits_label}
unfoldable pub use Rattle.stmt65.specs.Definitions.{definitions_of}
pub use Rattle.stmt65.specs.Digits.{digits2, hex2, hex4, offset_text}
pub use Rattle.stmt65.specs.Directives.{directive_text, first_directive_named}
unfoldable pub use Rattle.stmt65.specs.Directives.{directive_named}
pub use Rattle.stmt65.specs.Forms.{form_text, has_prefix, sized}
pub use Rattle.stmt65.specs.Layout.{Layout, free, is_before, start_of, with_start}
pub use Rattle.stmt65.specs.Levels.{character, fields_after, level_fields, spaced_byte}
pub use Rattle.stmt65.specs.Lexing.{alone_at, hex_len, is_binary_digit, is_character, is_text_byte, is_word_start, parts}
unfoldable pub use Rattle.stmt65.specs.Lexing.{part_at, parts_after}
pub use Rattle.stmt65.specs.Line.{plain_line, with_fields}
unfoldable pub use Rattle.stmt65.specs.Line.{filled, line_of}
pub use Rattle.stmt65.specs.LineAddresses.{FindsLine, GivesByte, address_after, line_past}
unfoldable pub use Rattle.stmt65.specs.LineAddresses.{line_addresses}
pub use Rattle.stmt65.specs.Meaning.{first_of, has_large, here_in, here_offset, initial, meaning, names_for, operation_in, readings, unless, with_front}
unfoldable pub use Rattle.stmt65.specs.Meaning.{after, bytes_of, coded, cpu_after, defined_by, fault_of, final, fragments_of, has_no_form, has_unknown_cpu, is_out_of_range, is_past_end, is_past_start, is_twice, is_undefined, meaning_in, meaning_of, next_of}
pub use Rattle.stmt65.specs.ModeLaws.{EachWay, HasMode, IsModeOf, IsWay, LacksForm, ModesAreWays, NeedsMode, TakesMode, TakesModes, WaysAreModes, is_way, mode_fragments}
pub use Rattle.stmt65.specs.Names.{same}
unfoldable pub use Rattle.stmt65.specs.Names.{is_name}
pub use Rattle.stmt65.specs.Operands.{in_row, kind_text, long_text, named_text, prefix_text, row_operands}
unfoldable pub use Rattle.stmt65.specs.Operands.{operand_text}
pub use Rattle.stmt65.specs.Parts.{Define, Mark, Number, Part, Text, Word, begins_with}
pub use Rattle.stmt65.specs.Places.{AreBlanks, GoesOver, IsAmong, IsPart, IsRemarkOf, ReadsAs, StandsIn, begins_operand, bytes_in, goes_on, part_text, parts_left, value_alone}
pub use Rattle.stmt65.specs.Printable.{AreOperands, IsLong, IsNameLong, IsOperand, IsPrintable, IsTable, IsWrittenIn, MayBeForced, MayBeLabelled, TakesLabel}
pub use Rattle.stmt65.specs.Printed.{HasLabelName, HasName, HasNames, HasNamesIn, PrintsAs, ReadsBack, address_size, entry_value, row_form, source_line, source_value, with_label}
unfoldable pub use Rattle.stmt65.specs.Printed.{source_form}
pub use Rattle.stmt65.specs.Reading.{bracketed_in, data_of, half_datum, half_form, is_define, is_difference, is_equals, is_mark, is_nil, is_number_here, is_word_here, less_at, list_of, mark_value, next_address, number_at, number_datum, number_in, number_of_name, operand_in, reserve_of, segment_of, set_cpu_of, stated, takes_accumulator, values_of, whole, ◌>>=◌}
unfoldable pub use Rattle.stmt65.specs.Reading.{constant_of, further_at, halved_in, immediate_of, inner_at, joined, less_one, line_at, mark_datum, named_at, next_datum, next_half, next_value, operation_at, other_at, reading_of, tail_at, text_in, word_datum}
pub use Rattle.stmt65.specs.ReadingLaws.{ReadsLines, ReadsSpellings, SpellsOne, TakesParts}
pub use Rattle.stmt65.specs.SourceLine.{Accumulator, Assignment, Code, Data, Datum, DifferenceValue, Empty, Form, Instr, LessValue, NameValue, Nothing, NumberDatum, NumberValue, One, Operation, PlaceAssignment, Reserve, Segment, SetCpu, SourceLine, Statement, StringDatum, Two, Value, Values, is_absolute}
pub use Rattle.stmt65.specs.Sources.{source_addresses, source_definitions, source_meaning, source_readings, source_state}
pub use Rattle.stmt65.specs.Spacing.{IsDecimal, IsHex, IsSpacing, IsText, is_alone}
pub use Rattle.stmt65.specs.Spelling.{IsDatum, IsItem, IsList, IsMinus, IsPlus, IsSpelling, IsValue, Item, data_list, define, form_items, line_items, mark, name, number, operation_items, prefix_items, quoted_name, string, unwritten, value, value_list, word}
unfoldable pub use Rattle.stmt65.specs.Spelling.{Spells}
pub use Rattle.stmt65.specs.Statements.{alone, bytes_text, data_text, datum_text, definition_fields, distance_text, entry_text, fields_of, has_bytes, instr_fields, label_fields, next_text, numbers_text, quoted, remark_fields, return_text, with_operands}
unfoldable pub use Rattle.stmt65.specs.Statements.{comma_list}
pub use Rattle.stmt65.specs.Symbols.{Definition, address_of, apart, below, here, is_constant, is_small, lowered, with_here}
unfoldable pub use Rattle.stmt65.specs.Symbols.{find_name, has_zero_page_size, is_known, value_in, word_in}
pub use Rattle.stmt65.specs.Tables.{entry_len, entry_number, in_order, is_plain, onto_stretch, order_of}
unfoldable pub use Rattle.stmt65.specs.Tables.{cut_text, entries, low_number, pieces}
pub use Rattle.stmt65.specs.TextLaws.{IsFaultless, IsFirstFault, KeepsListings, Line, MeansBytes, MeansFault, StandsAtItsBytes, line_bytes, lines_of, names_of}
unfoldable pub use Rattle.stmt65.specs.TextLaws.{lines_below}
pub use Rattle.stmt65.specs.Views.{ExprView, OperandsView, RemarksView, StatementView, TargetView, none, one, two}
pub use Rattle.stmt65.specs.declared.assembling.assembler.Pass.{Pass}
pub use Rattle.stmt65.specs.declared.assembling.assembler.Source.{Source}
pub use Rattle.isa65.specs.declared.mnemonic.Mnemonic.TheVariants.{Adc}
