-- What holds of all that an information file says.
use Rattle.std.specs.Prelude.{List}
use Rattle.info65.specs.IncludeGroups.{AreIncludes}
use Rattle.info65.specs.Names.{AreNames}
use Rattle.info65.specs.Ranges.{AreRanges}
use Rattle.info65.specs.Segments.{AreSegments}
use Rattle.info65.specs.Views.{AreInLimits, IncludeView, NameView, SegmentView, SettingsView}
use Rattle.info65.specs.Types.{RangeSpec}

-- the settings are in their limits, and the ranges, the segments, the names and the include files are those
-- of one file
pub record IsSound (s : SettingsView) (rs : List RangeSpec) (gs : List SegmentView) (ns : List NameView) (fs : List IncludeView) : Type 0 where
  pub limits : AreInLimits s
  pub ranges : AreRanges rs
  pub segments : AreSegments gs
  pub names : AreNames ns
  pub includes : AreIncludes fs
