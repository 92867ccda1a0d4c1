-- The text that was read back is accepted.
use Rattle.std.proofs.Common.{◌≡◌, ◌∙◌, ℕ, List, ◌++◌, Ok, ap, append_assoc, drop, length, subst, sym}
use Rattle.std.proofs.Math.Seq.{drop-append_seam}
use Rattle.info65.specs.Words.{InfoView, OptionsView, information}
use Rattle.info65.specs.declared.information.range.RangeSpec.{RangeSpec}
use Rattle.map65.specs.Words.{MapView, mapped}
use Rattle.trace65.specs.Words.{IsReadBack, Says, proposals, proposed_ranges, unshown_in, unshown_lines}
use Rattle.trace65.specs.declared.report.Findings.{Findings}
use Rattle.trace65.specs.declared.report.InfoFile.{InfoFile}

-- what follows the file
pub rest_after : (file rest : List ℕ) → drop (length file) (file ++ rest) ≡ rest
rest_after file rest = drop-append_seam file rest

-- the file, what is found, and the comment
pub all_text : (file : InfoFile) (f : Findings) (text all unshown lines : List ℕ) → text ≡ file.bytes.now ++ f.proposed.text.items → lines ≡ unshown
    → all ≡ text ++ unshown_lines lines → all ≡ file.bytes.now ++ proposals f unshown
all_text file f text all unshown lines first same more =
    more ∙ ap (λ l. l ++ unshown_lines lines) first ∙ append_assoc file.bytes.now f.proposed.text.items (unshown_lines lines)
    ∙ ap (λ l. file.bytes.now ++ (f.proposed.text.items ++ unshown_lines l)) same

module _ (o : OptionsView) (file : InfoFile) (m : MapView) (f : Findings) (info : InfoView) where
  pub accepted : (text all unshown lines labels : List ℕ) (ranges : List RangeSpec) (shown : MapView)
      → text ≡ file.bytes.now ++ f.proposed.text.items → lines ≡ unshown → all ≡ text ++ unshown_lines lines → information o all ≡ Ok info
      → ranges ≡ proposed_ranges f → labels ≡ f.proposed.labels.items → Says file.info.now ranges labels info
      → shown ≡ mapped info m.image → unshown ≡ unshown_in shown m f.reached → IsReadBack o file m f unshown
  accepted text all unshown lines labels ranges shown first same more accepts are_ranges are_labels says is_map are =
      let P : List RangeSpec → Type 0 = λ l. Says file.info.now l labels info in
      let Q : List ℕ → Type 0 = λ l. Says file.info.now (proposed_ranges f) l info in
      record {
        info = info;
        accepted = ap (information o) (sym (all_text file f text all unshown lines first same more)) ∙ accepts;
        says = subst Q are_labels (subst P are_ranges says);
        shown = are ∙ ap (λ l. unshown_in l m f.reached) is_map;
      }
