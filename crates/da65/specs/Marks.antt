-- Whether a listing can have separators, segments or comments.
use Rattle.std.specs.Prelude.{◌==◌, ◌||◌, not, Bool, length, is_some}
use Rattle.std.specs.List.{list_any}
use Rattle.info65.specs.Words.{InfoView, NameView}
use Rattle.da65.specs.Types.{Style}

abbrev pub has_comment : NameView → Bool
has_comment n = is_some n.comment

-- The comment level is not 0, a segment is given, or a given name has a comment.
abbrev pub has_marks : InfoView → Style → Bool
has_marks info t = not (t.level == 0) || (not (length info.segments == 0) || list_any has_comment info.names)
