use Rattle.std.proofs.Common.{◌≡◌, ◌∙◌, ℕ, ◌+◌, ap, arith, get_or, subst, refl, sym, set, true, false}
use Rattle.std.specs.Prelude.{IsSome}
use Rattle.map65.specs.Words.{AreMarkedBelow, AreNamed, is_own, is_skip, role_of, with_len}
use Rattle.map65.proofs.MarkingLemmas.{item_named, item_marked, next_begins, role_here, role_known, skip_marked}
use Rattle.map65.proofs.marking.mark_item.Goals as goal

pub unwrap-role-requires : goal.unwrap-role-requires
unwrap-role-requires g c =
    subst IsSome (sym (role_known c.args.mapped.now c.args.address c.from-at.result c.args.cells.now c.role_in.result c.from-at.ensures c.requires.low c.requires.high (omega arith) c.requires.marked c.role_in.ensures)) refl

pub size_at-len-requires-clause-role : goal.size_at-len-requires-clause-role
size_at-len-requires-clause-role g c =
    role_here c.args.mapped.now c.args.address c.from-at.result c.args.cells.now c.role_in.result c.unwrap-role.result c.from-at.ensures c.requires.low c.requires.high (omega arith) c.requires.marked c.role_in.ensures c.unwrap-role.ensures

pub returns-then-not-is_skip : goal.returns-then-not-is_skip
returns-then-not-is_skip g c =
    let m = c.args.mapped.now in
    let role : c.unwrap-role.result ≡ role_of m.info c.args.address = role_here m c.args.address c.from-at.result c.args.cells.now c.role_in.result c.unwrap-role.result c.from-at.ensures c.requires.low c.requires.high (omega arith) c.requires.marked c.role_in.ensures c.unwrap-role.ensures in
    let shown : is_skip (role_of m.info c.args.address) ≡ false = sym (ap is_skip role) ∙ sym c.is_skip.ensures ∙ c.if-not-is_skip.true in
    let cell = c.with_len.ensures ∙ ap (λ (at : ℕ). with_len (get_or c.args.cells.now at 0) c.size_at-len.result) c.from-at.ensures in
    record {
      positive = c.size_at-len.ensures.positive;
      small = c.size_at-len.ensures.small;
      begins = next_begins m c.args.address c.size_at-len.result c.requires.begins c.size_at-len.ensures.value;
      marked = subst (λ (at : ℕ). AreMarkedBelow m (c.args.address + c.size_at-len.result) (set c.args.cells.now at c.with_len.result)) (sym c.from-at.ensures)
          (item_marked m c.args.address c.size_at-len.result c.args.cells.now c.requires.low c.requires.high (omega arith) c.requires.begins c.size_at-len.ensures.value c.requires.marked c.with_len.result cell shown);
      own = subst (λ (at : ℕ). AreNamed (is_own m.info.names) (set c.args.cells.now at c.with_len.result)) (sym c.from-at.ensures)
          (item_named m c.args.address c.size_at-len.result c.args.cells.now c.requires.low c.requires.high (omega arith) c.requires.begins c.size_at-len.ensures.value c.requires.marked (is_own m.info.names) c.with_len.result cell c.requires.own);
    }

pub returns-else-not-is_skip : goal.returns-else-not-is_skip
returns-else-not-is_skip g c =
    let m = c.args.mapped.now in
    let role : c.unwrap-role.result ≡ role_of m.info c.args.address = role_here m c.args.address c.from-at.result c.args.cells.now c.role_in.result c.unwrap-role.result c.from-at.ensures c.requires.low c.requires.high (omega arith) c.requires.marked c.role_in.ensures c.unwrap-role.ensures in
    let skip : is_skip (role_of m.info c.args.address) ≡ true = sym (ap is_skip role) ∙ sym c.is_skip.ensures ∙ c.if-not-is_skip.false in
    record {
      positive = c.size_at-len.ensures.positive;
      small = c.size_at-len.ensures.small;
      begins = next_begins m c.args.address c.size_at-len.result c.requires.begins c.size_at-len.ensures.value;
      marked = skip_marked m c.args.address c.size_at-len.result c.args.cells.now c.requires.low c.requires.high (omega arith) c.requires.begins c.size_at-len.ensures.value c.requires.marked skip;
      own = c.requires.own;
    }
