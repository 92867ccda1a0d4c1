-- The words of clauses and proofs, here and in the crates above, from one place.
pub use Rattle.as65.specs.Types.{Stretch}
pub use Rattle.as65.specs.Assembled.{AssembledView, seen}
pub use Rattle.as65.specs.Changes.{IsDifferences}
pub use Rattle.as65.specs.Code.{IsReached, given_of}
unfoldable pub use Rattle.as65.specs.Code.{ended}
pub use Rattle.as65.specs.Command.{this_program}
pub use Rattle.as65.specs.Comparison.{Compares, CountsWrites}
pub use Rattle.files65.specs.FaultyLine.{Reports}
pub use Rattle.as65.specs.Compared.{Compared, compared}
pub use Rattle.as65.specs.Differences.{AreDifferences, difference_lines, line_of, shown_bytes, spaced, stretch_bytes}
unfoldable pub use Rattle.as65.specs.Differences.{change_text, lengths_line, origin_text}
pub use Rattle.as65.specs.Failure.{said_after}
pub use Rattle.as65.specs.Image.{IsFailureOf, IsNoImage}
pub use Rattle.as65.specs.Information.{placed_at}
pub use Rattle.as65.specs.Labels.{label_line, labels_of, source_labels}
pub use Rattle.as65.specs.Moves.{IsMoved, bytes_text, digit, is_alike, moves_in}
unfoldable pub use Rattle.as65.specs.Moves.{address_in_name, distance_text, label_in_line, labels_in, move_line, move_text, moves_after, what_lies}
pub use Rattle.as65.specs.Request.{WorkView, is_compare_word, is_comparing, work_of}
unfoldable pub use Rattle.as65.specs.Request.{to_compare, to_write, work_in}
pub use Rattle.as65.specs.Sizes.{HasOther}
pub use Rattle.as65.specs.Status.{status_of}
pub use Rattle.as65.specs.Stretches.{differs}
unfoldable pub use Rattle.as65.specs.Stretches.{AreRuns}
