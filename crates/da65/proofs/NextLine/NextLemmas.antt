-- The next of the lines that are left.
use Rattle.std.proofs.Common.{◌≡◌, ◌≢◌, ◌∙◌, ℕ, zero, suc, ◌+◌, ◌-◌, ◌<◌, ◌≤◌, ◌∷◌, ◌++◌, Bool, true, false, List, Option, Some, None, drop, length, refl, ap, sym, subst, arith, append_assoc, []}
use Rattle.std.specs.List.{flat_map}
use Rattle.std.proofs.lemmas.Bool.{and_parts, cond-true}
use Rattle.da65.specs.Words.{Constant, Cpu, Ending, Header, IsConstant, IsConstantNext, IsFirstOf, IsGroupPlace, IsGroupStart, IsLabelNext, IsNext, IsPlace, ListingLine, ListingPlace, MayBeNext, Style, after_group, assignment_line, base_name, comment_at, comment_line, comment_lines, constant_lines, constants, constants_left, ending_lines, group_bytes, group_len, group_line, group_lines, groups_left, has_constant_line, has_empty_line, header_lines, is_base, left_from, line_text, lines_from, listing, listing_below, names_of, plain, statement_at, statement_lines, style_of, with_blank_after}
use Rattle.info65.specs.Words.{SettingsView}
use Rattle.map65.specs.Words.{MapView, addresses, is_skip, item_len, opcodes, role_of}
use Rattle.map65.proofs.Public.{begun}
use Rattle.da65.specs.declared.listing.place.ListingPlace.TheVariants.{Group}
use Rattle.da65.proofs.Groups.GroupLemmas.{groups-end, groups-first, groups-skip, place-next}
use Rattle.da65.proofs.Groups.ShapeLemmas.{group-shape}
use Rattle.da65.proofs.Groups.StepLemmas.{addresses-end, addresses-here}
use Rattle.da65.proofs.Statements.LabelLaws.{group_takes}
use Rattle.stmt65.specs.Words.{StatementView, TakesLabel, fits_label}
use Rattle.stmt65.specs.Views as view

-- ---- one line after the other

pub first-text : (t u : Style) (left : List ListingLine) (text : List ℕ) (rest : List ListingLine) (l : ListingLine)
    → left ≡ l ∷ rest → text ≡ line_text t l → t ≡ u → IsFirstOf u left text rest
first-text t u left text rest l lines is same = record { head = l; lines = lines; text_is = is ∙ ap (λ (t : Style). line_text t l) same }

-- the lines that are left as text
pub next_lines : (m : MapView) (p next : ListingPlace) (text : List ℕ) → IsNext m (left_from p m) text next → lines_from p m ≡ text ∷ lines_from next m
next_lines m p next text is = grind arith

-- a plain line
pub next-plain : (m : MapView) (left : List ListingLine) (text : List ℕ) (next : ListingPlace) (t : Style) (s : StatementView)
    → left ≡ plain s ∷ left_from next m → text ≡ line_text t (plain s) → t ≡ style_of m.info.settings → IsPlace next m → IsNext m left text next
next-plain m left text next t s lines is same place = grind arith

-- the same lines
pub next-moved : (m : MapView) (left same : List ListingLine) (text : List ℕ) (next : ListingPlace) → left ≡ same → IsNext m same text next → IsNext m left text next
next-moved m left same text next is known = subst (λ (ls : List ListingLine). IsNext m ls text next) (sym is) known

-- the label and the statement of a group, where these are their lines
pub from-label : (m : MapView) (k : ℕ) (lines : List ListingLine) (text : List ℕ) (next : ListingPlace) → statement_lines m (m.image.start + k) ≡ lines
    → IsNext m (lines ++ after_group m k) text next → IsLabelNext m k text next
from-label m k lines text next is known = next-moved m _ (lines ++ after_group m k) text next (ap (λ (ls : List ListingLine). ls ++ after_group m k) is) known

pub match-moved : (m : MapView) (left same : List ListingLine) (text : List ℕ) (o : Option ListingPlace) → left ≡ same → MayBeNext m same text o → MayBeNext m left text o
match-moved m left same text o is known = subst (λ (ls : List ListingLine). MayBeNext m ls text o) (sym is) known

-- the line of a number of the header, and those after it
pub header-blank : (cpu : Cpu) (n : ℕ) → n < 4 → n ≢ 0 → n ≢ 2 → drop n (header_lines cpu) ≡ plain view.blank ∷ drop (n + 1) (header_lines cpu)
header-blank cpu zero low other another = absurd (other refl)
header-blank cpu (suc zero) low other another = refl
header-blank cpu (suc (suc zero)) low other another = absurd (another refl)
header-blank cpu (suc (suc (suc zero))) low other another = refl
header-blank cpu (suc (suc (suc (suc n)))) low other another = absurd (omega (arith, low))

-- ---- lines of the numbers from one on and before an end

-- those of the first, and those of the numbers after it
pub lines-here : (f : ℕ → List ListingLine) (end v : ℕ) (ls : List ListingLine) → v < end → f v ≡ ls → flat_map f (addresses (end - v) v) ≡ ls ++ flat_map f (addresses (end - (v + 1)) (v + 1))
lines-here f end v ls low is = ap (flat_map f) (addresses-here end v low) ∙ ap (λ (ls : List ListingLine). ls ++ flat_map f (addresses (end - (v + 1)) (v + 1))) is

pub lines-none : (f : ℕ → List ListingLine) (end v : ℕ) → end ≤ v → flat_map f (addresses (end - v) v) ≡ []
lines-none f end v high = ap (flat_map f) (addresses-end end v high)

pub constants-here : (m : MapView) (v : ℕ) → IsConstant m v
    → constants m (65536 - v) v ≡ comment_lines m v ++ assignment_line (names_of m) v ∷ constants m (65536 - (v + 1)) (v + 1)
constants-here m v is = lines-here (constant_lines m) 65536 v _ is.low (cond-true _ _ _ is.has) ∙ append_assoc (comment_lines m v) (assignment_line (names_of m) v ∷ []) _

-- ---- the groups that are left

pub lines-title : (m : MapView) → listing m ≡ left_from (Header 0) m
unfolding listing listing_below constants_left groups_left
lines-title m = rw (groups-first m) refl

pub lines-end : (m : MapView) (k : ℕ) → k ≡ length m.image.bytes → groups_left m k ≡ []
unfolding groups_left
lines-end m k end = ap (flat_map (group_lines m)) (groups-end m k end)

pub lines-skip : (m : MapView) (k : ℕ) → IsGroupPlace m k → k < length m.image.bytes → is_skip (role_of m.info (m.image.start + k)) ≡ true → groups_left m (k + 1) ≡ groups_left m k
unfolding groups_left
lines-skip m k here low skip = sym (ap (flat_map (group_lines m)) (groups-skip m k here low skip))

-- ---- constant lines, and what follows

with_blank_after-first : (any : Bool) (head : ListingLine) (rest : List ListingLine) → with_blank_after any (head ∷ rest) ≡ head ∷ with_blank_after true rest
with_blank_after-first true head rest = refl
with_blank_after-first false head rest = refl

constants-first : (m : MapView) (v : ℕ) (any : Bool) (head : ListingLine) (ls : List ListingLine) → constants m (65536 - v) v ≡ head ∷ ls → constants_left m v any ≡ head ∷ (with_blank_after true ls ++ groups_left m 0)
unfolding constants_left
constants-first m v any head ls is = ap (λ (ls : List ListingLine). with_blank_after any ls ++ groups_left m 0) is ∙ ap (λ (ls : List ListingLine). ls ++ groups_left m 0) (with_blank_after-first any head ls)

pub constant-comment : (m : MapView) (v : ℕ) (any : Bool) (text : List ℕ) → IsConstant m v → comment_at m v ≡ Some text
    → constants_left m v any ≡ plain (view.remark text) ∷ assignment_line (names_of m) v ∷ constants_left m (v + 1) true
unfolding constants_left
constant-comment m v any text is comment = constants-first m v any _ _ (constants-here m v is ∙ ap (λ (o : Option (List ℕ)). comment_line o ++ assignment_line (names_of m) v ∷ constants m (65536 - (v + 1)) (v + 1)) comment)

pub constant-bare : (m : MapView) (v : ℕ) (any : Bool) → IsConstant m v → comment_at m v ≡ None
    → constants_left m v any ≡ assignment_line (names_of m) v ∷ constants_left m (v + 1) true
unfolding constants_left
constant-bare m v any is none = constants-first m v any _ _ (constants-here m v is ∙ ap (λ (o : Option (List ℕ)). comment_line o ++ assignment_line (names_of m) v ∷ constants m (65536 - (v + 1)) (v + 1)) none)

pub constant_onward : (m : MapView) (v u : ℕ) (text : List ℕ) (next : ListingPlace) → constants m (65536 - v) v ≡ constants m (65536 - u) u → IsConstantNext m u text next
    → IsConstantNext m v text next
unfolding constants_left
constant_onward m v u text next same is = λ any. next-moved m _ _ text next (ap (λ (ls : List ListingLine). with_blank_after any ls ++ groups_left m 0) same) (is any)

pub constant-end : (m : MapView) (v : ℕ) (any : Bool) → constants m (65536 - v) v ≡ [] → constants_left m v any ≡ with_blank_after any [] ++ groups_left m 0
unfolding constants_left
constant-end m v any none = ap (λ (ls : List ListingLine). with_blank_after any ls ++ groups_left m 0) none

-- ---- the label and the statement

pub line_none : (m : MapView) (a : ℕ) → is_base (names_of m) a ≡ false → has_constant_line (names_of m) a ≡ false
line_none m a none = rw none refl

pub unlabelled-lines : (m : MapView) (a : ℕ) → is_base (names_of m) a ≡ false → statement_lines m a ≡ group_line None (statement_at m a) a (group_bytes m a) ∷ []
unfolding statement_lines
unlabelled-lines m a none = rw none refl

pub beside-lines : (m : MapView) (a : ℕ) (name : List ℕ) → is_base (names_of m) a ≡ true → name ≡ base_name (names_of m) a → fits_label (style_of m.info.settings).columns name ≡ true
    → statement_lines m a ≡ group_line (Some name) (statement_at m a) a (group_bytes m a) ∷ []
unfolding statement_lines
beside-lines m a name base is fits = rw (base, ← is, fits) refl

pub above-lines : (m : MapView) (a : ℕ) (name : List ℕ) → is_base (names_of m) a ≡ true → name ≡ base_name (names_of m) a → fits_label (style_of m.info.settings).columns name ≡ false
    → statement_lines m a ≡ plain (view.label name) ∷ group_line None (statement_at m a) a (group_bytes m a) ∷ []
unfolding statement_lines
above-lines m a name base is long = rw (base, ← is, long) refl

pub takes-label : (m : MapView) (k : ℕ) → IsGroupStart m k → TakesLabel (statement_at m (m.image.start + k))
takes-label m k start = group_takes (names_of m) (opcodes m) (role_of m.info (m.image.start + k)) (m.image.start + k) _ (group-shape m k start.place start.inside start.shown)

-- ---- after the statement of a group

-- the next group follows its line
pub then-group : (m : MapView) (k : ℕ) (text : List ℕ) (l : ListingLine) → IsGroupStart m k → has_empty_line (style_of m.info.settings) (statement_at m (m.image.start + k)) ≡ false
    → text ≡ line_text (style_of m.info.settings) l → IsNext m (l ∷ after_group m k) text (Group (k + group_len m (m.image.start + k)))
unfolding after_group ending_lines
then-group m k text l start none is = grind (arith, place-next)

-- an empty line follows its line
pub then-empty : (m : MapView) (k : ℕ) (text : List ℕ) (l : ListingLine) → IsGroupStart m k → has_empty_line (style_of m.info.settings) (statement_at m (m.image.start + k)) ≡ true
    → text ≡ line_text (style_of m.info.settings) l → IsNext m (l ∷ after_group m k) text (Ending (k + group_len m (m.image.start + k)))
unfolding after_group ending_lines
then-empty m k text l start some is = grind (arith, place-next)

-- ---- what is known of the parts of what is listed

pub style_cpu : (s : SettingsView) → (style_of s).cpu ≡ s.cpu
unfolding style_of
style_cpu s = refl

-- a name as the address has it
pub assignment_told : (m : MapView) (v : ℕ) (t : Style) (text name : List ℕ) → t ≡ style_of m.info.settings → name ≡ base_name (names_of m) v
    → text ≡ line_text t (plain (view.assignment name v)) → text ≡ line_text (style_of m.info.settings) (assignment_line (names_of m) v)
assignment_told m v t text name same is told = grind arith

-- the constant line of an address, and the next ones
pub then_constant : (m : MapView) (v : ℕ) (left : List ListingLine) (text : List ℕ) → v < 65536 → left ≡ assignment_line (names_of m) v ∷ constants_left m (v + 1) true
    → text ≡ line_text (style_of m.info.settings) (assignment_line (names_of m) v) → IsNext m left text (Constant (v + 1) true)
then_constant m v left text low lines is = grind arith

pub constant-base : (m : MapView) (v : ℕ) → IsConstant m v → is_base (names_of m) v ≡ true
constant-base m v is = (and_parts (is_base (names_of m) v) _ is.has).0

-- ---- where a group begins

-- an item begins at each group, and none at a skipped byte
pub shown-start : (m : MapView) (k : ℕ) → IsGroupPlace m k → k < length m.image.bytes → 0 < item_len m (m.image.start + k) → IsGroupStart m k
shown-start m k place low some = record { place = place; inside = low; shown = (begun m (m.image.start + k) some).shown }
