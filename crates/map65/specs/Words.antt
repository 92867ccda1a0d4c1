-- The words of clauses and proofs, here and in the crates above, from one place.
pub use Rattle.map65.specs.Types.{Code, Empty, Entry, ImageFault, NameKind, Op, RangeSpec, RangeType, Short, TooLarge}
pub use Rattle.map65.specs.Bases.{BaseLaw, IsInCode, IsOutside, LiesBy, PlaceLaw}
pub use Rattle.map65.specs.Cells.{AreCellsOf, bit}
unfoldable pub use Rattle.map65.specs.Cells.{code_of}
pub use Rattle.map65.specs.Code.Cells.{AreCells, AreNamed, IsBuilt, IsLaid, is_cut, is_wide_cell, is_wide_role, lay_at, nowhere}
unfoldable pub use Rattle.map65.specs.Code.Cells.{are_one_run, cell_of, coded, has_border, is_named, len_in_cell, role_in_cell, with_border, with_len, with_name}
pub use Rattle.map65.specs.Code.Marking.{AreMarkedBelow, ArePainted, Changes, KeepsLay, Reaches, changed, is_covered, is_covered_below, is_referenced_below, is_within, painted}
unfoldable pub use Rattle.map65.specs.Code.Marking.{is_joined_in, role_by}
pub use Rattle.map65.specs.Code.Passing.{Passes, Takes}
pub use Rattle.map65.specs.Device.{AppendsFront, Counts, HasTaken, IsFailure, TakesUpTo, has_failed, one_more}
pub use Rattle.map65.specs.Image.{GivesImage, ReadCount, StopsAt, is_short, most_of, read_limit, sized, start_of}
unfoldable pub use Rattle.map65.specs.Image.{image_by, image_of}
pub use Rattle.map65.specs.ImageView.{AreBytes, ImageView, IsPlaced, byte_at, bytes_from, end_of, is_inside}
pub use Rattle.map65.specs.Items.{AreItems, CanBegin, EndsBefore, ItemLaw, code_size, size_for}
unfoldable pub use Rattle.map65.specs.Items.{full_len_at, item_len, item_start, size_at}
pub use Rattle.map65.specs.MapView.{IsSoundMap, MapView, mapped, opcodes}
pub use Rattle.map65.specs.Marks.{MarksView, is_between}
unfoldable pub use Rattle.map65.specs.Marks.{is_marked}
pub use Rattle.map65.specs.Names.{Base, EntryStartLaw, IsHighest, IsInner, IsReferenced, IsUncovered, NameLaw, ReferenceLaw, base_by, base_or, default_base, given_base, kind_by, place_in, refers_by, text_by}
unfoldable pub use Rattle.map65.specs.Names.{base_at, entry_base, entry_start, has_name, is_referenced, kind_at, place_of, refers, text_at}
pub use Rattle.map65.specs.Pieces.{AreAlike, AreOnePiece, AreOneRun, AreUnnamed, PieceLaw, RunLaw}
unfoldable pub use Rattle.map65.specs.Pieces.{are_joined, is_in_run, is_joined, is_own}
pub use Rattle.map65.specs.Roles.{is_skip, is_wide, role_of, unit_of}
unfoldable pub use Rattle.map65.specs.Roles.{role_at, role_in}
pub use Rattle.map65.specs.Segments.{borders}
unfoldable pub use Rattle.map65.specs.Segments.{is_border, segment_at}
unfoldable pub use Rattle.map65.specs.Spans.{addresses, left_at}
pub use Rattle.map65.specs.Taking.{IsReadTo, TakeCount, TakesNoMore}
pub use Rattle.map65.specs.Targets.{IsTarget, branch_target, byte_of, code_target, entry_of, entry_target, is_jump, only_inside, opcode_target, return_target, row_target, operand_word, word_target}
unfoldable pub use Rattle.map65.specs.Targets.{operand_target, target_at, target_for, target_of}
pub use Rattle.map65.specs.Told.{told_failed, told_faults, told_of}
pub use Rattle.info65.specs.declared.information.name.Given.{Given}
pub use Rattle.info65.specs.declared.information.range.Entry.TheVariants.{Address, Instruction, Return}
pub use Rattle.info65.specs.declared.information.range.RangeType.TheVariants.{Skip}
