-- The segment of the group before.
use Rattle.std.proofs.Common.{◌≡◌, ◌∙◌, ℕ, zero, suc, ◌+◌, ◌-◌, ◌<◌, true, false, List, length, Option, Some, None, refl, ap, arith, sym, []}
use Rattle.std.proofs.lemmas.Bool.{cond-true, cond-false, cond_both, false_from_ne_true, true≢false}
use Rattle.std.proofs.lemmas.Slice.Eq.{bytes_eq-Decides}
use Rattle.map65.specs.Words.{AreOneRun, MapView, is_in_run, is_skip, role_of, segment_at}
use Rattle.map65.proofs.Public.{in-run, joined-run, run_law}
use Rattle.da65.specs.Words.{IsGroupStart, begins, group_len, is_same_segment, segment_before, stride_at}
use Rattle.da65.proofs.Groups.GroupLemmas.{begins-inside, begins-skip, begins-true, group-fits, holder, left-within, stride-group, stride-skip}
use Rattle.da65.proofs.Groups.InsideLemmas.{group-piece}
use Rattle.info65.specs.Words.{segment_covering}

segment-here : (m : MapView) (k : ℕ) → begins m (m.image.start + k) ≡ true → segment_before m (suc k) ≡ segment_at m (m.image.start + k)
unfolding segment_before
segment-here m k is = cond-true (begins m (m.image.start + k)) _ _ is

segment-kept : (m : MapView) (k : ℕ) → begins m (m.image.start + k) ≡ false → segment_before m (suc k) ≡ segment_before m k
unfolding segment_before
segment-kept m k is = cond-false (begins m (m.image.start + k)) _ _ is

pub segment-first : (m : MapView) → segment_before m 0 ≡ None
unfolding segment_before
segment-first m = refl

-- past a skipped byte
pub segment-skip : (m : MapView) (k : ℕ) → k < length m.image.bytes → is_skip (role_of m.info (m.image.start + k)) ≡ true → segment_before m (k + 1) ≡ segment_before m k
segment-skip m k low skip = let next : k + 1 ≡ suc k = omega arith in ap (segment_before m) next ∙ segment-kept m k (begins-skip m k low skip)

-- inside a group
segment-inside : (m : MapView) (k n : ℕ) → IsGroupStart m k → n < group_len m (m.image.start + k) → segment_before m (k + suc n) ≡ segment_at m (m.image.start + k)
segment-inside m k zero start low =
    let next : k + suc zero ≡ suc k = omega arith in
    ap (segment_before m) next ∙ segment-here m k (begins-true m k start.inside start.shown start.place.group)
segment-inside m k (suc n) start low =
    let i : ℕ = k + suc n in
    let next : k + suc (suc n) ≡ suc i = omega arith in
    let fits = group-fits m k start.place start.inside start.shown in
    let stride = stride-group m (m.image.start + k) start.shown in
    ap (segment_before m) next
    ∙ segment-kept m i (begins-inside m i (omega (arith, low, fits)) (left-within (stride_at m) m.image.start k i start.place.group (omega arith) (omega (arith, low, stride))))
    ∙ segment-inside m k n start (omega (arith, low))

-- after any byte of a group
pub segment-after : (m : MapView) (k : ℕ) → k < length m.image.bytes → is_skip (role_of m.info (m.image.start + k)) ≡ false → segment_before m (k + 1) ≡ segment_at m (m.image.start + k)
segment-after m k low shown =
    let held = holder m k low in
    let p : ℕ = held.first in
    let shown : is_skip (role_of m.info (m.image.start + p)) ≡ false =
    false_from_ne_true (is_skip (role_of m.info (m.image.start + p))) (λ skip.
    let alone : p ≡ k = omega (arith, held.low, held.reach, stride-skip m (m.image.start + p) skip) in
    true≢false (sym skip ∙ ap (λ (x : ℕ). is_skip (role_of m.info (m.image.start + x))) alone ∙ shown)) in
    let inside : p < length m.image.bytes = omega (arith, held.low, low) in
    let group : IsGroupStart m p = record { place = held.place; inside = inside; shown = shown } in
    let within : k < p + group_len m (m.image.start + p) = omega (arith, held.reach, stride-group m (m.image.start + p) shown) in
    let after : k + 1 ≡ p + suc (k - p) = omega (arith, held.low) in
    let piece = group-piece m p held.place inside shown in
    let one : AreOneRun m (m.image.start + p) (m.image.start + k) = λ x above upto. joined-run m x (piece x above (omega (arith, upto, within))) in
    ap (segment_before m) after ∙ segment-inside m p (k - p) group (omega (arith, within, held.low))
    ∙ sym ((run_law m).segment (m.image.start + p) (m.image.start + k) (m.image.start + k) one (omega (arith, held.low)) (omega arith))

-- the group before a byte that goes on with its run has the same segment
pub segment-in-run : (m : MapView) (k : ℕ) → k < length m.image.bytes → is_skip (role_of m.info (m.image.start + k)) ≡ false → is_in_run m (m.image.start + k) ≡ true → segment_before m k ≡ segment_at m (m.image.start + k)
segment-in-run m k low shown run =
    let a : ℕ = m.image.start + k in
    let here = in-run m a run in
    let i : ℕ = k - 1 in
    let last : a - 1 ≡ m.image.start + i = omega (arith, here.low) in
    let after : k ≡ i + 1 = omega (arith, here.low) in
    let shown : is_skip (role_of m.info (m.image.start + i)) ≡ false = ap (λ (x : ℕ). is_skip (role_of m.info x)) (sym last) ∙ ap is_skip here.same ∙ shown in
    let one : AreOneRun m (m.image.start + i) a = λ x above upto. let same : x ≡ a = omega (arith, above, upto, last) in ap (is_in_run m) same ∙ run in
    ap (segment_before m) after ∙ segment-after m i (omega (arith, low)) shown ∙ sym ((run_law m).segment (m.image.start + i) a a one (omega (arith, after)) (omega arith))

pub segment-run : (m : MapView) (k : ℕ) → IsGroupStart m k → is_in_run m (m.image.start + k) ≡ true → segment_before m k ≡ segment_at m (m.image.start + k)
segment-run m k start run = segment-in-run m k start.inside start.shown run

-- where each address is of the default
pub segment-none : (m : MapView) (k : ℕ) → ((a : ℕ) → segment_at m a ≡ None) → segment_before m k ≡ None
unfolding segment_before
segment-none m zero none = refl
segment-none m (suc k) none =
    cond_both (begins m (m.image.start + k)) (segment_at m (m.image.start + k)) (segment_before m k) (λ s. s ≡ None) (λ _. none (m.image.start + k)) (λ _. segment-none m k none)

pub segment-itself : (s : Option (List ℕ)) → is_same_segment s s ≡ true
segment-itself None = refl
segment-itself (Some s) = (bytes_eq-Decides s s).1 refl

-- without segments there is none
pub bare-segment : (m : MapView) (a : ℕ) → m.info.segments ≡ [] → segment_at m a ≡ None
unfolding segment_at segment_covering
bare-segment m a none = rw none refl
