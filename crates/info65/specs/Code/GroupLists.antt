-- The list of the groups so far, as the code has it.
use Rattle.std.specs.Prelude.{List, [], Option, None, Some}
use Rattle.std.specs.declared.snapshot.Snapshot.{Snapshot}
use Rattle.info65.specs.Groups.{GroupView}

abbrev pub before_seen : Option (Snapshot (List GroupView)) → List GroupView
before_seen None = []
before_seen (Some s) = s.value
