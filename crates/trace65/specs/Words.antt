-- The words of clauses and proofs, here and in the crates above, from one place.
pub use Rattle.trace65.specs.Command.{this_program}
pub use Rattle.trace65.specs.Request.{TracingView, tracing_of}
unfoldable pub use Rattle.trace65.specs.Request.{traced_in}
pub use Rattle.trace65.specs.Check.{AreMerged, Explains, Says}
pub use Rattle.trace65.specs.Unshown.{unshown_items, unshown_lines}
unfoldable pub use Rattle.trace65.specs.Unshown.{is_unshown, unshown_in}
pub use Rattle.trace65.specs.Skips.{AreSkips, skip_range}
unfoldable pub use Rattle.trace65.specs.Skips.{is_skip}
pub use Rattle.trace65.specs.Report.{AreFindings, Begins, HaveTheRest, IsAccepted, IsReadBack, IsWritten, after_file, flow_of, proposals, proposed_ranges}
