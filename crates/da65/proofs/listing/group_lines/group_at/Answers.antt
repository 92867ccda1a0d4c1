use Rattle.std.proofs.Common.{◌≡◌, ◌∙◌, ◌+◌, ℕ, ap, arith, drop, sym, take}
use Rattle.map65.specs.Words.{MapView}
use Rattle.da65.specs.Words.{group_bytes, group_len}
use Rattle.da65.proofs.Groups.GroupLemmas.{begins-true, group-fits}
use Rattle.da65.proofs.Groups.ShapeLemmas.{group-index}
use Rattle.da65.proofs.Statements.PrintLaws.{statement_prints}
use Rattle.da65.proofs.listing.group_lines.group_at.Goals as goal

pub returns-clause-group : goal.returns-clause-group
returns-clause-group g c =
    let len : c.group_len-len.result ≡ group_len c.args.listed.now (c.args.listed.now.image.start + c.args.index) = c.group_len-len.ensures.len ∙ ap (λ (m : MapView). group_len m c.address-address.result) c.map-map.ensures.map ∙ ap (group_len c.args.listed.now) c.address-address.ensures in
    let bytes : c.split_at-2.result.0.now ≡ group_bytes c.args.listed.now (c.args.listed.now.image.start + c.args.index) =
    c.split_at-2.ensures.front ∙ ap (take c.group_len-len.result) (c.split_at.ensures.back ∙ ap (drop c.args.index) c.bytes.ensures.bytes)
    ∙ ap (λ (n : ℕ). take n (drop c.args.index c.args.listed.now.image.bytes)) len ∙ sym (group-index c.args.listed.now c.args.index) in
    record {
      start = c.requires;
      address_is = c.address-address.ensures;
      bytes_are = bytes;
      len_is = c.split_at-2.ensures.front_len ∙ len;
      room = omega (arith, c.address-address.ensures, c.split_at-2.ensures.front_len ∙ len, group-fits c.args.listed.now _ c.requires.place c.requires.inside c.requires.shown, c.bytes.ensures.placed.room);
      label = tt;
      printable = (statement_prints _ _ (rw c.map-map.ensures.map at c.map-map.ensures.names) (rw c.map-map.ensures.map at c.map-map.ensures.placed) (rw bytes at c.are_bytes.ensures) (begins-true _ _ c.requires.inside c.requires.shown c.requires.place.group)).printable;
    }
