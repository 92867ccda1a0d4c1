-- What contracts see of a name.
use Rattle.std.specs.Prelude.{List, Option, option_copied, option_map, option_to_list}
use Rattle.info65.specs.Views.{NameView}
use Rattle.info65.specs.Types.{Given}

abbrev pub given_seen : Given → NameView
given_seen g = record { address = g.address; size = g.size; text = g.text.now; comment = option_copied g.comment }

-- the name, if there is one
abbrev pub given_part : Option Given → List NameView
given_part name = option_to_list (option_map given_seen name)
