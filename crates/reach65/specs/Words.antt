-- The words of clauses and proofs, here and in the crates above, from one place.
pub use Rattle.reach65.specs.Types.{Op, RangeSpec, Step, Tag}
pub use Rattle.reach65.specs.Flow.{FlowView, LeadsTo, end_by, goal_by, is_last, next_by, next_of, row_goal, text_by}
unfoldable pub use Rattle.reach65.specs.Flow.{goal_at, goal_of, instruction_at, next_at}
unfoldable pub use Rattle.reach65.specs.Inlines.{inline_of, is_inline, text_end, zero_end}
pub use Rattle.reach65.specs.Ranges.{AreInOrder, HaveAllFree, LieIn, LiesIn, is_free}
pub use Rattle.reach65.specs.Reached.{AreReached, Reached, entry, leads_of, led}
pub use Rattle.reach65.specs.Steps.{AreSteps, IsStep}
pub use Rattle.reach65.specs.Tables.{AreEnds, AreFirsts, Enters, HasText, coded, is_text}
pub use Rattle.reach65.specs.Taken.{Adds, AreMarkedBy, is_code_of}
unfoldable pub use Rattle.reach65.specs.Taken.{is_code, is_given, is_taken}
