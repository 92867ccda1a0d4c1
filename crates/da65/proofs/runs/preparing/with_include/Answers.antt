use Rattle.std.proofs.Common.{◌≡◌, ℕ, List, Option, refl}
use Rattle.info65.specs.Words.{IncludeView, InfoView}
use Rattle.da65.specs.Words.{FileView, file_named, with_file, with_include}
use Rattle.da65.proofs.runs.preparing.with_include.Goals as goal

file_included : (fs : List FileView) (k : ℕ) (x : IncludeView) (i : InfoView) (name : List ℕ) (bytes : Option (List ℕ)) → name ≡ x.file → bytes ≡ file_named fs name → with_file fs k x i ≡ with_include k name i bytes
file_included fs k x i name bytes is found = cc

pub returns-in-Some : goal.returns-in-Some
returns-in-Some g c x is = rw (file_included _ _ x _ _ _ (c.name_at-name.ensures.name x is) c.in-Some.ensures) (rw c.as_bytes.ensures.value at c.with_bytes.ensures)

pub returns : goal.returns
returns g c x is = rw (file_included _ _ x _ _ _ (c.name_at-name.ensures.name x is) c.in-None.ensures, c.missing_message.ensures, c.as_bytes-in-None.ensures.value) refl
