-- What lines become, written one after the other.
use Rattle.std.proofs.Common.{◌≡◌, ◌∙◌, ◌++◌, ℕ, Bool, List, [], sym}
use Rattle.std.proofs.Math.Path.{fun_ext}
use Rattle.std.proofs.lemmas.List.{append-nil}
use Rattle.name65.specs.Changes.{LineBecomes}
use Rattle.stmt65.specs.declared.language.Language.{Language}
use Rattle.name65.specs.Compared.{Scope}
use Rattle.name65.specs.Written.{AppendsLine, scope_seen}
use Rattle.name65.specs.declared.plan.NewText.{NewText}
use Rattle.name65.specs.declared.plan.PlacedLine.{PlacedLine}

-- a line was appended as it becomes, and nothing moves behind the last line
pub in_place : (placed : PlacedLine) (old new : NewText) (text : List ℕ) → LineBecomes (scope_seen placed.plan.now) placed.at placed.end placed.line.now text []
    → new.lines.items ≡ old.lines.items ++ text → new.tail.items ≡ old.tail.items → AppendsLine placed old new
in_place placed old new text is e t = record { text = text; moved = []; becomes = is; whole = e; tail_is = t ∙ sym (append-nil _) }

-- equal parts make equal scopes
pub same_scope : (language : Language) (used : Bool) (named named' : ℕ → Bool) (last last' : ℕ) → ((a : ℕ) → named a ≡ named' a) → last ≡ last'
    → let one : Scope = record { language = language; named = named; used = used; last = last } in
    let other : Scope = record { language = language; named = named'; used = used; last = last' } in one ≡ other
same_scope language used named named' last last' n l = let e : named ≡ named' = fun_ext n in cc
