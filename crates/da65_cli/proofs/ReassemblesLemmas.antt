-- What a run over a buffer assembles to, the output assembles to.
use Rattle.std.proofs.Common.{◌≡◌, ◌∙◌, ℕ, Bool, List, [], IfSome, Option, None, Some, Result, Ok, Err}
use Rattle.std.specs.Io.KnownBytes.{Keeps}
use Rattle.info65.specs.Words.{InfoView}
use Rattle.map65.specs.Words.{ImageView, image_of}
use Rattle.map65.specs.declared.image.ImageFault.{ImageFault}
use Rattle.da65.specs.Words.{Reassembles, Took, TookImage, TookImageOf}
use Rattle.da65.specs.declared.runs.outcome.RunFault.{RunFault}
use Rattle.da65.specs.declared.runs.outcome.Status.{Status}
use Rattle.da65.specs.declared.runs.outcome.Status.TheVariants.{Done, Refused}
use Rattle.da65_cli.specs.Code.Reporting.{FlushesThenReports}

took : (image : ImageView) (taken out : Option (List ℕ)) → Keeps taken out → Took image (Some []) taken → Took image (Some []) out
took image None out k t = absurd t.taken
took image (Some xs) None k t = absurd k
took image (Some xs) (Some ys) k t = record { text = t.text; taken = k ∙ t.taken; means = t.means; repaired = t.repaired }

took_image : (i : InfoView) (image : Result ImageView ImageFault) (taken out : Option (List ℕ)) → Keeps taken out → TookImage i image (Some []) taken → TookImage i image (Some []) out
took_image i (Ok image) taken out k t = λ none. took image taken out k (t none)
took_image i (Err fault) taken out k t = absurd t

took_of : (info : Result InfoView (List ℕ)) (bytes : List ℕ) (failed : Bool) (taken out : Option (List ℕ)) → Keeps taken out → TookImageOf info bytes failed (Some []) taken → TookImageOf info bytes failed (Some []) out
took_of (Ok i) bytes failed taken out k t = took_image i (image_of i.settings bytes failed) taken out k t
took_of (Err message) bytes failed taken out k t = absurd t

reassembles : (was result : Result Status RunFault) (info : Result InfoView (List ℕ)) (bytes : List ℕ) (failed : Bool) (taken out : Option (List ℕ)) (waiting : List ℕ) (errors errors' : Option (List ℕ))
    → Reassembles was info bytes failed (Some []) taken → FlushesThenReports was result taken out waiting errors errors' → Reassembles result info bytes failed (Some []) out
reassembles was (Ok Done) info bytes failed taken out waiting errors errors' r s = took_of info bytes failed taken out s.1 (rw s.0 at r)
reassembles was (Ok Refused) info bytes failed taken out waiting errors errors' r s = tt
reassembles was (Err fault) info bytes failed taken out waiting errors errors' r s = tt

-- The same for the input's bytes, where they are told, and a buffer that has taken nothing.
pub reassembles_told : (left : Option (List ℕ)) (info : Result InfoView (List ℕ)) (failed : Bool) (was result : Result Status RunFault) (old taken out : Option (List ℕ)) (waiting : List ℕ) (errors errors' : Option (List ℕ))
    → old ≡ Some [] → IfSome left (λ bytes. Reassembles was info bytes failed old taken) → FlushesThenReports was result taken out waiting errors errors' → IfSome left (λ bytes. Reassembles result info bytes failed (Some []) out)
reassembles_told None info failed was result old taken out waiting errors errors' o r s = tt
reassembles_told (Some bytes) info failed was result old taken out waiting errors errors' o r s =
    reassembles was result info bytes failed taken out waiting errors errors' (rw o at r) s
