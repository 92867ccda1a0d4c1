-- What a reader has left after one read and then another, and which image its bytes give.
use Rattle.std.proofs.Common.{◌≡◌, ℕ, ◌+◌, ◌<◌, ◌≤◌, refl, Bool, nat_lt, arith, length-append, List, length, take, drop, Option, None, Some, IfSome, Result, Ok, Err, sym, ◌∙◌, ap, ap₂, subst, ⊎_elim}
use Rattle.std.proofs.lemmas.List.{take_all, length-take}
use Rattle.std.proofs.lemmas.Bool.{cases_lt}
use Rattle.std.proofs.lemmas.Bool.Decides.{nat_tests}
use Rattle.std.specs.Io.KnownBytes.{Consumes}
use Rattle.std.proofs.KnownBytes.{Consumes-trans}
use Rattle.info65.specs.Words.{SettingsView}
use Rattle.map65.specs.Words.{Empty, GivesImage, ImageFault, ImageView, IsReadTo, ReadCount, Short, StopsAt, Takes, TakesUpTo, TooLarge, image_by, image_of, most_of, read_limit, sized}

-- ---- reads, one after the other

-- what was taken at first, and then in a read, is within the limit
pub took_up_to : (old mid new : Option (List ℕ)) (a b : List ℕ) (limit : ℕ) → Consumes old mid a → Consumes mid new b → length a + length b ≤ limit → TakesUpTo limit old new
took_up_to old mid new a b limit f g h = grind (arith, length-append, Consumes-trans)

-- ---- bytes that are passed over

pub takes_more : (old mid new : Option (List ℕ)) (b : List ℕ) (n m : ℕ) → Takes n old mid → Consumes mid new b → n + length b ≡ m → Takes m old new
takes_more old mid new b n m t g is = grind (arith, length-append, Consumes-trans)

-- ---- which image some bytes give

-- what holds of each answer holds of the image of some bytes
image_cases : (P : Result ImageView ImageFault → Type 0) (start size : Option ℕ) (xs : List ℕ) → P (Err Short) → P (Err Empty) → P (Err TooLarge) → ((v : ImageView) → P (Ok v)) → P (image_by start size xs)
unfolding image_by
image_cases P start size xs short empty large ok = grind arith

-- more bytes than an image may have are too many, from any start
too_large : (start : Option ℕ) (xs : List ℕ) → 65536 < length xs → image_by start None xs ≡ Err TooLarge
unfolding image_by
too_large start xs many = grind (arith, nat_tests)

-- as many bytes as are taken decide what all that are asked for do
pub image_by-take : (start size : Option ℕ) (xs : List ℕ) → image_by start size (take (most_of size) xs) ≡ image_by start size (sized size xs)
image_by-take start None xs =
    ⊎_elim
    (λ few. ap (λ (b : List ℕ). image_by start None b) (take_all 65537 xs (omega (arith, few))))
    (λ many. too_large start (take 65537 xs) (omega (arith, many, length-take 65537 xs)) ∙ sym (too_large start xs (omega (arith, many))))
    (cases_lt (length xs) 65537)
image_by-take start (Some n) xs = refl

-- bytes alone say nothing of the reader and of memory
pub of_bytes : (start size : Option ℕ) (xs : List ℕ) (n : ℕ) → ReadCount (image_by start size xs) n n
of_bytes start size xs n = image_cases (λ r. ReadCount r n n) start size xs refl refl refl (λ v. refl)

-- reading went as far as it had to
pub stops_here : (s : SettingsView) (offset most : ℕ) (start size : Option ℕ) (xs : List ℕ) (old new : Option (List ℕ)) (failed : Bool) (answer : Result ImageView ImageFault) → answer ≡ image_by start size xs → offset ≡ s.offset → most ≡ most_of s.size → IsReadTo (offset + most) old new → StopsAt answer (read_limit s) old new failed
stops_here s offset most start size xs old new failed answer is at many p =
    let to : IsReadTo (read_limit s) old new = subst (λ n. IsReadTo n old new) (ap₂ (λ a b. a + b) at many) p in
    rw is (image_cases (λ r. StopsAt r (read_limit s) old new failed) start size xs to to to (λ v. to))

-- the answer to the bytes that were taken is that to all of them
pub image_seen : (left : Option (List ℕ)) (old new : ℕ) (s : SettingsView) (offset most : ℕ) (bytes : List ℕ) (answer : Result ImageView ImageFault) → new ≡ old → answer ≡ image_by s.start s.size bytes → offset ≡ s.offset → most ≡ most_of s.size → IfSome left (λ xs. bytes ≡ take most (drop offset xs)) → IfSome left (λ xs. GivesImage answer (image_of s xs (nat_lt old new)))
unfolding image_of
image_seen None old new s offset most bytes answer same is at many all = tt
image_seen (Some xs) old new s offset most bytes answer same is at many all = grind (arith, image_by-take)

-- ---- what is taken after bytes that were passed over

pub bound_after : (old mid new : Option (List ℕ)) (offset limit : ℕ) → TakesUpTo offset old mid → TakesUpTo limit mid new → TakesUpTo (offset + limit) old new
bound_after old mid new offset limit p q = took_up_to old mid new p.bytes q.bytes (offset + limit) p.taken q.taken (omega (arith, p.bound, q.bound))

pub ruleset read = (image_seen, of_bytes, stops_here)
