-- The names of the files that a run needs.
use Rattle.std.specs.Prelude.{[], map, None, Result, Ok, Err}
use Rattle.info65.specs.Words.{InfoView}
use Rattle.da65.specs.Types.{InfoFault}
use Rattle.da65.specs.NeedsView.{NeedsView}

abbrev pub nothing : NeedsView
nothing = record { input = None; output = None; includes = [] }

-- the names in the settings, and those of the include files, in the order of their groups; a
-- name that two groups have stands twice
abbrev pub needs_of : InfoView → NeedsView
needs_of i = record { input = i.settings.input; output = i.settings.output; includes = map (λ x. x.file) i.includes }

-- the names; none if the information file is refused
abbrev pub needs_in : Result InfoView InfoFault → NeedsView
needs_in (Ok i) = needs_of i
needs_in (Err e) = nothing
