use Rattle.std.specs.Prelude.{IsOk, MatchResult, Ok, Err, Result}
use Rattle.std.proofs.Common.{rules}
use Rattle.info65.proofs.NameLemmas.{file_name-utf8}
use Rattle.info65.proofs.information.merge.text_of.Goals as goal

told : {X E P : Type 0} (Q : X → Type 0) (R : E → Type 0) (r : Result X E) → P → MatchResult r Q (λ e. (P → ⊥) × R e) → IsOk r
told Q R (Ok x) p h = search rules
told Q R (Err e) p h = absurd (h.0 p)

pub unwrap-text-requires : goal.unwrap-text-requires
unwrap-text-requires g c = told _ _ c.from_utf8.result (file_name-utf8 c.args.name.now c.requires) c.from_utf8.ensures.cases
