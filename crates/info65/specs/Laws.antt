-- Laws of information files.
use Rattle.std.specs.Prelude.{◌≡◌, ◌⊎◌, ◌↔◌, ◌≤◌, ◌<◌, ◌+◌, ◌-◌, ℕ, List, [], ◌∷◌, ◌++◌, Ok, Err, Some, Result, length}
use Rattle.info65.specs.Faults.{fault}
use Rattle.info65.specs.Grammar.{IsInformation}
use Rattle.info65.specs.Groups.{AssignmentView, GroupView, value_in}
use Rattle.info65.specs.Ranges.{AreRanges}
use Rattle.info65.specs.Reader.{Stage, State, information, outside, read_from, step}
use Rattle.info65.specs.Tokens.{TokenView, tokens_of}
use Rattle.info65.specs.Values.{a_number, a_type, an_address}
use Rattle.info65.specs.Views.{InfoView, OptionsView}
use Rattle.info65.specs.declared.syntax.attribute.Attribute.TheVariants as attribute
use Rattle.info65.specs.Types.{Expected, GroupKind, InfoFault, RangeSpec, TooLarge}
use Rattle.info65.specs.declared.syntax.attribute.GroupKind.TheVariants as group

-- A text is accepted, and says this, exactly where it is an information file that says this.
abbrev pub AcceptsFiles : Type 0
AcceptsFiles = (o : OptionsView) (bytes : List ℕ) (info : InfoView) → (information o bytes ≡ Ok info) ↔ IsInformation o bytes info

-- From this place on, after these groups, these tokens have no fault: at their end only more can be missing.
abbrev pub IsFaultless : OptionsView → Stage → List GroupView → List TokenView → Type 0
IsFaultless o p before ts =
    (line : ℕ) → ((groups : List GroupView) × (read_from o p before ts (Ok line) ≡ Ok groups))
    ⊎ (read_from o p before ts (Ok line) ≡ Err (fault line Expected))

-- whatever follows these tokens, the fault is this
abbrev pub Refuses : OptionsView → Stage → List GroupView → List TokenView → InfoFault → Type 0
Refuses o p before ts e = (more : List TokenView) (ending : Result ℕ InfoFault) → read_from o p before (ts ++ more) ending ≡ Err e

-- reading goes from one place, after some groups, over these tokens to another
abbrev pub Reaches : OptionsView → Stage → List GroupView → List TokenView → Stage → List GroupView → Type 0
Reaches o p before [] q after = (p ≡ q) × (before ≡ after)
Reaches o p before (t ∷ ts) q after = (next : State) × (step o p before t ≡ Ok next) × Reaches o next.0 next.1 ts q after

-- The fault of a token: those before it have none, and reading them goes to a place where the token has
-- this fault; whatever follows, it is the refusal.
pub record IsOfToken (o : OptionsView) (p : Stage) (before : List GroupView) (ts : List TokenView) (e : InfoFault) : Type 0 where
  pub front : List TokenView
  pub token : TokenView
  pub more : List TokenView
  pub parts : ts ≡ front ++ token ∷ more
  pub faultless : IsFaultless o p before front
  pub place : Stage
  pub groups : List GroupView
  pub reached : Reaches o p before front place groups
  pub is : step o place groups token ≡ Err e
  pub refuses : Refuses o p before (front ++ token ∷ []) e

-- the fault of the end: the tokens have none, and where they end something is missing or a token has a
-- fault of its own
pub record IsOfEnd (o : OptionsView) (p : Stage) (before : List GroupView) (ts : List TokenView) (ending : Result ℕ InfoFault) (e : InfoFault) : Type 0 where
  pub faultless : IsFaultless o p before ts
  pub ends : ((line : ℕ) × (ending ≡ Ok line) × (e ≡ fault line Expected)) ⊎ (ending ≡ Err e)

-- The refusal of a text is that it is too large, or else the fault of the first token that has one, or
-- else the fault of the end.
abbrev pub RefusesFirst : Type 0
RefusesFirst = (o : OptionsView) (bytes : List ℕ) (e : InfoFault) → information o bytes ≡ Err e
    → ((1_048_576 < length bytes) × (e ≡ fault 1 TooLarge))
    ⊎ ((length bytes ≤ 1_048_576) × (IsOfToken o outside [] (tokens_of 1 bytes).tokens e ⊎ IsOfEnd o outside [] (tokens_of 1 bytes).tokens (tokens_of 1 bytes).ending e))

-- What is given in a group RANGE says this range: START is its first address, TYPE its role, and END is
-- its last address or SIZE the number of its addresses.
pub record SaysRange (given : List AssignmentView) (r : RangeSpec) : Type 0 where
  pub first : value_in attribute.Start given ≡ Some (an_address r.first)
  pub last : (value_in attribute.End given ≡ Some (an_address r.last)) ⊎ (value_in attribute.Size given ≡ Some (a_number (r.last + 1 - r.first)))
  pub role : value_in attribute.Role given ≡ Some (a_type r.role)

-- a group RANGE says the first of the ranges, and any other group says none
abbrev pub Says : GroupKind → List AssignmentView → List RangeSpec → (List RangeSpec → Type 0) → Type 0
Says group.Range given [] others = ⊥
Says group.Range given (r ∷ rs) others = SaysRange given r × others rs
Says _ given rs others = others rs

-- the ranges are those that the groups RANGE say, one a group, in the order of the groups
abbrev pub AreSaid : List GroupView → List RangeSpec → Type 0
AreSaid [] rs = rs ≡ []
AreSaid (g ∷ gs) rs = Says g.kind g.given rs (AreSaid gs)

-- The ranges of an information file are those that its groups RANGE say; none ends before it begins, and
-- no address belongs to two of them.
abbrev pub RangesApart : Type 0
RangesApart = (o : OptionsView) (bytes : List ℕ) (info : InfoView) (i : IsInformation o bytes info) → AreSaid i.groups info.ranges × AreRanges info.ranges
