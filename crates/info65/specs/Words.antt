-- The words of clauses and proofs, here and in the crates above, from one place.
pub use Rattle.info65.specs.Types.{Attribute, BadInclude, Class, Cpu, Expected, ValueForm, Given, Group, GroupKind, InfoFault, InfoFaultKind, RangeSpec, RangeType, RangesOverlap, SegmentSpec, Span, Start, TokenKind, UnknownGroup, Value}
unfoldable pub use Rattle.info65.specs.Attributes.{attribute_named, boolean_named, form_of, group_named, type_named}
pub use Rattle.info65.specs.Closing.{label_fault, optional_name_fault, range_fault, segment_fault}
unfoldable pub use Rattle.info65.specs.Closing.{closing_fault}
pub use Rattle.info65.specs.Code.Classes.{AreDigitsIn, begins_gap, bit_of}
unfoldable pub use Rattle.info65.specs.Code.Classes.{classes_of}
pub use Rattle.info65.specs.Code.Groups.{IsAtMost, MayClose, assigned_seen, assignment_seen, global_seen, group_seen, groups_seen, value_seen}
pub use Rattle.info65.specs.Code.Includes.{Includes, ReadsFile, name_result_seen, named_seen, with_added}
pub use Rattle.info65.specs.Code.Index.{AreMarked, AreRanged, AreSetAlike, AreSetToo, IsFoundAt, IsIndex, StandsIn, numbered, stands_by, text_at}
unfoldable pub use Rattle.info65.specs.Code.Index.{any_in}
pub use Rattle.info65.specs.Code.Kept.{AreContents, kept_part}
unfoldable pub use Rattle.info65.specs.Code.Kept.{kept_of}
pub use Rattle.info65.specs.Code.Lookup.{IsRangeFault, IsSegmentFault, RangesToo, SegmentsToo}
pub use Rattle.info65.specs.Code.Names.{given_part, given_seen}
pub use Rattle.info65.specs.Code.Numbers.{IsSet, NumbersView, SamePages}
pub use Rattle.info65.specs.Code.Pool.{AreAbove, AreBlocks, IsPool, IsWithin, ReachTo, blank_entry, bytes_of, entry_covers, entry_seen, optional, reach_of, span_of}
unfoldable pub use Rattle.info65.specs.Code.Pool.{block_start}
pub use Rattle.info65.specs.Code.Reading.{Advances, Grows, Leads, Moves, ReadsGroup, TakesToken, is_semicolon, place_after}
pub use Rattle.info65.specs.Code.Results.{Adds, Fails, Gives, MayName, Sees}
pub use Rattle.info65.specs.Code.SegmentTable.{AreStarts, IsOrder, IsPlace, IsSplit, IsStart, blank_start, start_at}
pub use Rattle.info65.specs.Code.Segments.{parts_seen, segment_seen, segments_seen}
pub use Rattle.info65.specs.Code.Steps.{kind_seen, lexeme_seen, seen}
pub use Rattle.info65.specs.Code.Texts.{AddsText, StandsAlike, TextsView, texts_seen}
unfoldable pub use Rattle.info65.specs.Code.Texts.{hash_from, slot_of}
pub use Rattle.info65.specs.Comments.{unless_empty}
unfoldable pub use Rattle.info65.specs.Comments.{comment_in, lacks_name}
unfoldable pub use Rattle.info65.specs.Digits.{number_of_digits}
pub use Rattle.info65.specs.Faults.{fault, fault_text, out_of_memory, ◌>>=◌}
pub use Rattle.info65.specs.Grammar.{Accepts, AreGroups, AreNew, IsGroup, IsInformation, IsToken, Item, Spells, end_items, given_items, group_items, value, without_marks}
pub use Rattle.info65.specs.Groups.{AreAllFormed, AreFormed, AssignmentView, GroupView, given_before, global_part, is_of}
unfoldable pub use Rattle.info65.specs.Groups.{global_given, has, has_instead, is_given, value_in}
pub use Rattle.info65.specs.IncludeGroups.{AreIncludes, include_from, include_part}
unfoldable pub use Rattle.info65.specs.IncludeGroups.{has_room, include_in, includes_of}
pub use Rattle.info65.specs.Includes.{after_sign, before_sign, blank_include, optional_adds, or_bad, plain_name, trimmed_end, unless_ignored, with_names}
unfoldable pub use Rattle.info65.specs.Includes.{address_written, assignment_in, included, is_identifier, line_adds, line_in, name_adds, names_included, names_with, trimmed, without_comment}
pub use Rattle.info65.specs.Labels.{is_at, is_elsewhere, label_sized, name_part}
unfoldable pub use Rattle.info65.specs.Labels.{by_address, label_in, name_fault, named_at, names_from, names_said, range_name}
pub use Rattle.info65.specs.Laws.{AcceptsFiles, IsFaultless, IsOfEnd, IsOfToken, RangesApart, RefusesFirst, SaysRange}
pub use Rattle.info65.specs.Layouts.{IsEntry, IsNumber, layout_of, row}
pub use Rattle.info65.specs.Lexemes.{KindView, LexemeView, are_digits, character, closing_brace, number, opening_brace, semicolon, starts_word, string, word}
unfoldable pub use Rattle.info65.specs.Lexemes.{character_at, in_class, lexeme_at, number_in, string_at, word_at}
pub use Rattle.info65.specs.NameLaws.{CoversHighest, IsHighest, NamesGiven, OwnAddressWins}
pub use Rattle.info65.specs.Names.{AreGiven, AreNames, IsComment, IsName, blank_name, covers, default_label, is_comment_byte, is_upper_hex, name_at}
unfoldable pub use Rattle.info65.specs.Names.{covering, covering_below, default_name, has_comment_form, is_like_default, is_reserved}
pub use Rattle.info65.specs.Ranges.{AreRanges, has_address, last_from, range_between, range_from, range_part}
unfoldable pub use Rattle.info65.specs.Ranges.{overlaps, range_in, range_of_parts, ranges_of}
pub use Rattle.info65.specs.Reader.{Stage, State, after_group, assigned, at_attribute, at_brace, at_end, at_group, at_semicolon, closed, closed_by, group, inside, one, opened, opening, outside, valued, wanted}
unfoldable pub use Rattle.info65.specs.Reader.{attribute_at, finish, groups_of, information, read, read_from, read_token, step}
pub use Rattle.info65.specs.SegmentLaws.{CoversOne, SaysSegment, SegmentsApart}
pub use Rattle.info65.specs.Segments.{AreSegments, IsSegment, blank_segment, contains, segment_at, segment_from, segment_part}
unfoldable pub use Rattle.info65.specs.Segments.{meets, segment_covering, segment_in, segments_of}
pub use Rattle.info65.specs.Settings.{info_of}
unfoldable pub use Rattle.info65.specs.Settings.{settings_of}
pub use Rattle.info65.specs.Standing.{Stand, TokensStand, feeds, is_gap, is_solid}
pub use Rattle.info65.specs.Tokens.{Stream, TokenView, ended, found, is_blank, opens_comment, refused, stops, tokens_of, with_token}
unfoldable pub use Rattle.info65.specs.Tokens.{tokens_after}
pub use Rattle.info65.specs.Values.{HasForm, ValueView, a_comment, a_name, a_number, a_type, address_value, an_address, are_printable, as_boolean, as_character, as_comment, as_cpu, as_name, as_number, as_type, boolean_of, boolean_value, comment_value, cpu_value, in_form, label_value, number_value, type_value}
unfoldable pub use Rattle.info65.specs.Values.{is_file_name, is_on_command_line, name_value, value_of}
pub use Rattle.info65.specs.Views.{AreInLimits, AreOptions, IncludeView, InfoView, IsColumn, NameView, OptionsView, SegmentView, SettingsView, name_seen, no_options}
pub use Rattle.info65.specs.declared.information.range.RangeType.TheVariants.{ByteTable, Code, DbyteTable, DwordTable, WordTable}
pub use Rattle.info65.specs.declared.syntax.token.TokenKind.TheVariants.{Word}
