use Rattle.std.proofs.Common.{◌∙◌, ◌++◌, ◌∷◌, [], ◌+◌, List, ℕ, refl, ap, arith, length, map, subst}
use Rattle.std.specs.Prelude.{option_map}
use Rattle.info65.specs.Words.{NameView, ReachTo, block_start, entry_seen, given_seen, optional, span_of}
use Rattle.info65.specs.declared.information.pool.Entry.{Entry}
use Rattle.info65.proofs.PoolLemmas.{IsPut, put_seen}
use Rattle.info65.proofs.information.pool.NamePool.add.Goals as goal

pub returns-clause-done : goal.returns-clause-done
returns-clause-done g c =
    let n = given_seen c.args.name in
    let pool = c.self.inside.bytes.items in
    let es = c.self.inside.entries.items in
    let e : Entry = record { address = n.address; size = n.size; text = c.in_ok-text.text; comment = c.in_ok-comment.comment; most = c.in_ok-most.most } in
    let put : IsPut pool c.put_optional.new.bytes.items es e n = record {
      bytes = c.in_ok-comment.ensures.bytes ∙ ap (λ (l : List ℕ). l ++ optional n.comment) c.in_ok-text.ensures.bytes;
      address = refl;
      size = refl;
      text = c.in_ok-text.ensures.span;
      comment = c.in_ok-comment.ensures.span ∙ ap (λ (l : List ℕ). option_map (span_of l) n.comment) c.in_ok-text.ensures.bytes;
      own = omega (arith, c.in_ok-most.ensures, c.most_reached.ensures.own, c.from.ensures, c.from-2.ensures);
      block = λ j from below. omega (arith, c.in_ok-most.ensures, subst (λ (l : List Entry). ReachTo l (block_start (length l + 1)) (length l) c.most_reached.result) c.as_slice.ensures.value c.most_reached.ensures.block j from below);
    } in
    ap (map (entry_seen c.put_optional.new.bytes.items)) c.in_ok-push.ensures.items ∙ put_seen pool c.put_optional.new.bytes.items es e n c.self.invariant put ∙ ap (λ (l : List NameView). l ++ n ∷ []) c.self.view_is
