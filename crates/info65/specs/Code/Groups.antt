-- What contracts see of groups: names as lists of bytes.
use Rattle.std.specs.Prelude.{◌≡◌, ◌≤◌, ℕ, List, None, map}
use Rattle.info65.specs.Values.{ValueView, a_comment, a_name, a_number, an_address, a_boolean, a_character, a_cpu, a_type}
use Rattle.info65.specs.Closing.{closing_fault}
use Rattle.info65.specs.Groups.{AssignmentView, GroupView, global_given}
use Rattle.info65.specs.Types.{Assignment, ValueForm, Group, Value}
use Rattle.info65.specs.declared.syntax.attribute.ValueForm.TheVariants as form
use Rattle.info65.specs.declared.syntax.assignment.Value.TheVariants as value

abbrev pub value_seen : Value → ValueView
value_seen (value.Name text) = a_name text.now
value_seen (value.Comment text) = a_comment text.now
value_seen (value.Number n) = a_number n
value_seen (value.Address n) = an_address n
value_seen (value.Cpu c) = a_cpu c
value_seen (value.Boolean b) = a_boolean b
value_seen (value.Role r) = a_type r
value_seen (value.Character b) = a_character b

abbrev pub assignment_seen : Assignment → AssignmentView
assignment_seen g = record { attribute = g.attribute; value = value_seen g.value }

abbrev pub assigned_seen : List Assignment → List AssignmentView
assigned_seen given = map assignment_seen given

abbrev pub group_seen : {Z : Type 0} → Group Z → GroupView
group_seen g = record { kind = g.kind; given = assigned_seen g.given.items }

abbrev pub groups_seen : {Z : Type 0} → List (Group Z) → List GroupView
groups_seen groups = map group_seen groups

-- what all groups GLOBAL give
abbrev pub global_seen : {Z : Type 0} → List (Group Z) → List AssignmentView
global_seen groups = global_given (groups_seen groups)

-- after these groups the group has no fault where it closes
abbrev pub MayClose : {Z : Type 0} → List GroupView → Group Z → Type 0
MayClose before g = closing_fault before g.kind (assigned_seen g.given.items) ≡ None

-- a number of this form is at most so large
abbrev pub IsAtMost : ℕ → ValueForm → Type 0
IsAtMost limit (form.Number low high) = high ≤ limit
IsAtMost limit _ = ⊥
