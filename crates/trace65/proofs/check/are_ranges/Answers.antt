use Rattle.std.proofs.Common.{rules, ◌≡◌, ◌∙◌, ◌++◌, ◌==◌, ◌&&◌, Bool, Some, ap}
use Rattle.std.specs.Bool.{Decides}
use Rattle.std.proofs.lemmas.Slice.Eq.{slice_eq-Decides, strip_prefix_is}
use denote.Enum.Bare.{sameb}
use Rattle.info65.specs.contracts.information.range.RangeType as range_type
use Rattle.info65.specs.declared.information.range.RangeSpec.{RangeSpec}
use Rattle.trace65.proofs.check.are_ranges.Goals as goal

abbrev is_same : RangeSpec → RangeSpec → Bool
is_same a b = a.first == b.first && (a.last == b.last && sameb range_type.the_type a.role b.role)

decides : (a b : RangeSpec) → Decides (is_same a b) (a ≡ b)
decides = search rules

pub returns-in-Some : goal.returns-in-Some
returns-in-Some c = λ same.
    strip_prefix_is decides c.args.new.now c.args.base.now (Some c.in-Some.after) c.in-Some.ensures.cases
    ∙ ap (λ l. c.args.base.now ++ l) ((slice_eq-Decides decides c.in-Some.after.now c.args.found.now c.eq.result c.eq.ensures).0 same)
