-- What is kept of closed groups.
use Rattle.std.specs.Prelude.{◌≡◌, Bool, List, [], ◌∷◌, option_map, option_to_list}
use Rattle.std.specs.List.{flat_map}
use Rattle.info65.specs.Code.Index.{AreMarked, AreRanged}
use Rattle.info65.specs.Code.Names.{given_part}
use Rattle.info65.specs.Code.Segments.{parts_seen}
use Rattle.info65.specs.Groups.{GroupView}
use Rattle.info65.specs.Labels.{name_part, names_said}
use Rattle.info65.specs.Ranges.{range_part, ranges_of}
use Rattle.info65.specs.Segments.{segment_part, segments_of}
use Rattle.info65.specs.Views.{NameView}
use Rattle.info65.specs.Types.{Contents, GroupKind, RangeSpec}
use Rattle.info65.specs.declared.syntax.attribute.GroupKind.TheVariants as group

-- the group, if it is read again: a group RANGE or LABEL is not
abbrev pub kept_part : GroupView → List GroupView
kept_part g = if_read g.kind g
  where
    if_read : GroupKind → GroupView → List GroupView
    if_read group.Range g = []
    if_read group.Label g = []
    if_read _ g = g ∷ []

-- the groups that are read again, in their order
unfoldable pub kept_of : List GroupView → List GroupView
kept_of groups = flat_map kept_part groups

-- this is what the group says
pub record AreContents (g : GroupView) (c : Contents) : Type 0 where
  pub range : option_to_list c.range ≡ range_part g
  pub name : given_part c.name ≡ name_part g
  pub segment : option_to_list (option_map parts_seen c.segment) ≡ segment_part g

-- what is kept is that of these groups
pub record AreKept (groups kept : List GroupView) (ranges : List RangeSpec) (names : List NameView) (range_cells segment_cells : List Bool) : Type 0 where
  pub again : kept ≡ kept_of groups
  pub said : ranges ≡ ranges_of groups
  pub named : names ≡ names_said groups
  pub ranged : AreRanged (ranges_of groups) range_cells
  pub marks : AreMarked (segments_of groups) segment_cells
