-- What a name says of its base.
use Rattle.std.specs.Prelude.{ℕ, ◌==◌, Bool, false, Option, Some, None, if◌then◌else◌, option_map}
use Rattle.map65.specs.Words.{MapView, base_at}
use Rattle.da65.specs.Types.{NameKind}
use Rattle.da65.specs.BaseNames.{is_constant}
use Rattle.da65.specs.Statements.{target_by}
use Rattle.stmt65.specs.Words.{TargetView}

-- the name has no offset
abbrev pub is_own_name : Option NameKind → Bool
is_own_name None = false
is_own_name (Some k) = k.offset == 0

-- the offset of a name whose base a constant line defines
abbrev pub constant_offset : Option NameKind → Option ℕ
constant_offset None = None
constant_offset (Some k) = if is_constant k.place then Some k.offset else None

-- an address as a target, if it has a name
abbrev pub target_at : MapView → ℕ → Option TargetView
target_at m a = option_map (target_by a) (base_at m a)
