-- From a run over a buffer to what is on the output and on standard error.
use Rattle.std.proofs.Common.{◌≡◌, ◌<◌, ℕ, List, [], ◌∷◌, ◌++◌, IfSome, Option, None, Some, Result, Ok, Err, length, refl, sym, ◌∙◌, ap, append_assoc, arith}
use Rattle.std.proofs.lemmas.List.{append-nil}
use Rattle.std.specs.Io.KnownBytes.{Appends, Keeps, append_known}
use Rattle.std.proofs.KnownBytes.{Keeps-refl}
use Rattle.da65.specs.Words.{MessagesCount, Outcome, Writes, WritesFew}
use Rattle.da65.specs.declared.runs.outcome.RunFault.{RunFault}
use Rattle.da65.specs.declared.runs.outcome.RunFault.TheVariants.{Memory, Write, Messages}
use Rattle.da65.specs.declared.runs.outcome.Status.{Status}
use Rattle.map65.specs.Words.{AppendsFront}
use Rattle.da65_cli.specs.Delivery.{Delivers, HasPrefix}
use Rattle.da65_cli.specs.Code.Reporting.{HasRoom, IsListed, IsShortOf, FlushesThenReports}

-- what is left in the buffer is all that the output lacks
pub short_of : (out : Option (List ℕ)) (left : List ℕ) → IsShortOf (append_known out left) out
short_of out left = record { left = left; kept = Keeps-refl (append_known out left) }

-- a run that gave up stays as it ended
pub given_up : (was : Result Status RunFault) (fault : RunFault) (out errors : Option (List ℕ)) (left messages : List ℕ) → was ≡ Err fault → HasRoom was → FlushesThenReports was (Err fault) (append_known out left) out messages errors errors
given_up was Memory out errors left messages is room = (is, short_of out left, Keeps-refl errors)
given_up was Write out errors left messages is room = (short_of out left, Keeps-refl errors)
given_up was Messages out errors left messages is room = absurd (room is)

-- the few messages of a run fit, so none was refused
pub has_room : (was : Result Status RunFault) (old new : List ℕ) (before after : ℕ) → MessagesCount was before after → before ≡ 0 → old ≡ [] → WritesFew (Some old) (Some new) → (0 < after → length new ≡ 321) → HasRoom was
has_room was old new before after count b o few full = λ is.
    let one = rw (is, b) at count in
    let all = full (omega (arith, one)) in
    let none : length old ≡ 0 = ap length o in
    absurd (omega (arith, few, all, none))

-- ---- of an output that began empty

-- what was taken whole is what the output has
whole_out : (taken out : Option (List ℕ)) (text : List ℕ) → Appends (Some []) taken text → Keeps taken out → out ≡ Some text
whole_out None out text a k = absurd a
whole_out (Some xs) None text a k = absurd k
whole_out (Some xs) (Some ys) text a k = ap Some (k ∙ a)

-- bytes that were not passed on leave a prefix
prefix_out : (taken out : Option (List ℕ)) (text : List ℕ) → AppendsFront (Some []) taken text → IsShortOf taken out → HasPrefix out text
prefix_out None out text a s = absurd a.front.taken
prefix_out (Some xs) None text a s = absurd s.kept
prefix_out (Some xs) (Some ys) text a s = record {
  prefix = ys;
  rest = s.left ++ a.rest;
  bytes_are = refl;
  parts = a.front.parts ∙ ap (λ f. f ++ a.rest) (sym a.front.taken ∙ sym s.kept) ∙ append_assoc ys s.left a.rest;
}

-- a text that was taken whole is a prefix of itself
all_is_front : (old new : Option (List ℕ)) (text : List ℕ) → Appends old new text → AppendsFront old new text
all_is_front old new text a = record { rest = []; front = record { front = text; parts = sym (append-nil text); taken = a } }

front_of : (was : Result Status RunFault) (outcome : Outcome) (taken msgs : Option (List ℕ)) → Writes was outcome (Some []) taken (Some []) msgs → AppendsFront (Some []) taken outcome.listing
front_of (Ok status) outcome taken msgs w = all_is_front _ _ _ w.1
front_of (Err Messages) outcome taken msgs w = all_is_front _ _ _ w.0
front_of (Err Write) outcome taken msgs w = w.0
front_of (Err Memory) outcome None msgs w = absurd w.0
front_of (Err Memory) outcome (Some xs) msgs w = record { rest = outcome.listing; front = record { front = []; parts = refl; taken = w.0 } }

listed_whole : (was : Result Status RunFault) (outcome : Outcome) (taken msgs : Option (List ℕ)) → IsListed was → Writes was outcome (Some []) taken (Some []) msgs → Appends (Some []) taken outcome.listing × Appends (Some []) msgs outcome.messages
listed_whole (Ok status) outcome taken msgs l w = (w.1, w.2)
listed_whole (Err _) outcome taken msgs l w = absurd l

-- nothing is a part of nothing
nil_left : (xs ys : List ℕ) → xs ++ ys ≡ [] → xs ≡ []
nil_left [] ys is = refl
nil_left (x ∷ xs) ys is = cc

none_out : (taken out : Option (List ℕ)) → Keeps (Some []) taken → IsShortOf taken out → out ≡ Some []
none_out None out k s = absurd k
none_out (Some xs) None k s = absurd s.kept
none_out (Some xs) (Some ys) k s = ap Some (nil_left ys s.left (s.kept ∙ k))

delivers_from : (was result : Result Status RunFault) (outcome : Outcome) (taken out : Option (List ℕ)) (waiting : List ℕ) (errors errors' : Option (List ℕ)) → Writes was outcome (Some []) taken (Some []) (Some waiting) → FlushesThenReports was result taken out waiting errors errors' → Delivers result outcome out errors errors'
delivers_from was (Ok status) outcome taken out waiting errors errors' w s =
    let done = rw s.0 at w in (done.0, whole_out taken out outcome.listing done.1 s.1, (rw done.2 at s.2))
delivers_from was (Err Messages) outcome taken out waiting errors errors' w s =
    let whole = listed_whole was outcome taken (Some waiting) s.0 w in
    (whole_out taken out outcome.listing whole.0 s.1, (rw whole.1 at s.2))
delivers_from was (Err Write) outcome taken out waiting errors errors' w s = (prefix_out taken out outcome.listing (front_of was outcome taken (Some waiting) w) s.0, s.1)
delivers_from was (Err Memory) outcome taken out waiting errors errors' w s =
    let none = rw s.0 at w in (none_out taken out none.0 s.1, s.2)

-- a buffer before a sink that has taken nothing, with no byte in it, has taken nothing
pub fresh_taken : (out : Option (List ℕ)) (bytes : List ℕ) → out ≡ Some [] → bytes ≡ [] → append_known out bytes ≡ Some []
fresh_taken out bytes o b = rw (o, b) refl

-- From what the run promises of the buffer to what is on the output, for the input's bytes, where they are told.
pub delivers_told : (left : Option (List ℕ)) (outcome : List ℕ → Outcome) (was result : Result Status RunFault) (old taken out : Option (List ℕ)) (msgs : Option (List ℕ)) (waiting : List ℕ) (errors errors' : Option (List ℕ))
    → old ≡ Some [] → msgs ≡ Some [] → IfSome left (λ bytes. Writes was (outcome bytes) old taken msgs (Some waiting)) → FlushesThenReports was result taken out waiting errors errors'
    → IfSome left (λ bytes. Delivers result (outcome bytes) out errors errors')
delivers_told None outcome was result old taken out msgs waiting errors errors' o m w s = tt
delivers_told (Some bytes) outcome was result old taken out msgs waiting errors errors' o m w s = delivers_from was result (outcome bytes) taken out waiting errors errors' (rw (o, m) at w) s
