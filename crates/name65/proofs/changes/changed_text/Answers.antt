use Rattle.std.proofs.Common.{◌≡◌, refl, subst}
use Rattle.text65.specs.Lines.{text_lines}
use Rattle.stmt65.specs.Words.{source_addresses}
use Rattle.name65.specs.Changes.{LinesBecome}
use Rattle.name65.specs.Compared.{Scope}
use Rattle.name65.specs.NamedText.{last_in}
use Rattle.name65.proofs.ChangeLemmas.{same_scope}
use Rattle.name65.proofs.changes.changed_text.Goals as goal

pub returns : goal.returns
returns c =
    let s = c.args.source.now in
    let last : c.unwrap_or.result ≡ last_in s.start (source_addresses s) = rw (c.unwrap_or.ensures, c.last.ensures, c.from.ensures, c.requires) refl in record {
      lines = c.in_ok-new.new.lines.items;
      tail = c.in_ok-new.new.tail.items;
      become = subst (λ (scope : Scope). LinesBecome scope s.start (text_lines s.text.now) (source_addresses s) c.in_ok-new.new.lines.items c.in_ok-new.new.tail.items)
          (same_scope s.language c.args.setup.now.naming.now.used _ _ _ _ c.in_ok-named.ensures last) (rw (← c.requires) c.in_ok-new.ensures);
      whole = rw c.deref.ensures.value at c.in_ok-extend_from_slice.ensures.items;
    }
