use Rattle.std.proofs.Common.{◌≡◌, ◌∙◌, arith, false, length, nat_lt, refl, subst, sym, ℕ}
use Rattle.std.specs.Prelude.{List, Ok}
use Rattle.std.proofs.lemmas.Bool.Decides.{nat_tests}
use Rattle.info65.specs.Words.{AreInLimits, AreIncludes, AreNames, AreRanges, AreSegments, GroupView, InfoView, OptionsView, by_address, global_given, groups_of, includes_of, information, kept_of, names_said, ranges_of, segments_of, settings_of}
use Rattle.info65.proofs.FormLemmas.{all_formed, settings_in_limits, text_read}
use Rattle.info65.proofs.IncludeLemmas.{includes_sound}
use Rattle.info65.proofs.KeptLemmas.{formed_kept, global_kept, includes_kept, segments_kept}
use Rattle.info65.proofs.NamesLemmas.{read_given, sorted_names}
use Rattle.info65.proofs.RangeLemmas.{ranges_sound}
use Rattle.info65.proofs.SegmentLemmas.{segments_sound}
use Rattle.info65.proofs.information.info.read_info.Goals as goal

pub said_again-requires : goal.said_again-requires
said_again-requires g c = record {
  settings = rw (c.kept.ensures, global_kept c.in_ok-closed.closed) (all_formed c.in_ok-closed.closed (text_read c.args.options.now c.args.bytes.now c.in_ok-closed.closed c.in_ok-closed.ensures).formed);
  includes = rw c.kept.ensures (formed_kept c.in_ok-closed.closed (text_read c.args.options.now c.args.bytes.now c.in_ok-closed.closed c.in_ok-closed.ensures).formed);
}

-- what the kept groups say, they all say
settings_said : (o : OptionsView) (groups kept : List GroupView) → kept ≡ kept_of groups → settings_of o (global_given kept) ≡ settings_of o (global_given groups)
settings_said o groups kept is = rw (is, global_kept groups) refl

segments_said : (groups kept : List GroupView) → kept ≡ kept_of groups → segments_of kept ≡ segments_of groups
segments_said groups kept is = rw (is, segments_kept groups) refl

includes_said : (groups kept : List GroupView) → kept ≡ kept_of groups → includes_of kept ≡ includes_of groups
includes_said groups kept is = rw (is, includes_kept groups) refl

pub invariant_of-result : goal.invariant_of-result
invariant_of-result g c =
    let groups = c.in_ok-closed.closed in
    let read = text_read c.args.options.now c.args.bytes.now groups c.in_ok-closed.ensures in
    record {
      limits = subst AreInLimits (sym (settings_said c.args.options.now groups _ c.kept.ensures) ∙ c.in_ok-said.ensures.settings) (settings_in_limits c.args.options.now (global_given groups) c.limits.ensures (all_formed groups read.formed));
      ranges = subst AreRanges (sym c.in_ok-ranges.ensures.ranges) (ranges_sound groups read);
      segments = subst AreSegments (sym (segments_said groups _ c.kept.ensures) ∙ c.in_ok-said.ensures.segments) (segments_sound groups read);
      includes = subst AreIncludes (sym (includes_said groups _ c.kept.ensures) ∙ c.in_ok-said.ensures.includes) (includes_sound groups read);
      names = subst AreNames (sym c.in_ok-ranges.ensures.names) (sorted_names (names_said groups) (read_given groups read));
    }

-- the parts are those of the groups
together : (o : OptionsView) (bytes : List ℕ) (groups : List GroupView) (i : InfoView) → nat_lt 1_048_576 (length bytes) ≡ false → groups_of o bytes ≡ Ok groups
    → settings_of o (global_given groups) ≡ i.settings → ranges_of groups ≡ i.ranges → segments_of groups ≡ i.segments → by_address (names_said groups) ≡ i.names → includes_of groups ≡ i.includes → information o bytes ≡ Ok i
unfolding information
together o bytes groups i small read s r g n c = rw (small, read, s, r, g, n, c) refl

pub returns : goal.returns
returns g c =
    let groups = c.in_ok-closed.closed in
    together c.args.options.now c.args.bytes.now groups _ (grind (arith, nat_tests, c.if-bytes-gt-MOST_BYTES.false)) c.in_ok-closed.ensures
    (sym (settings_said c.args.options.now groups _ c.kept.ensures) ∙ c.in_ok-said.ensures.settings)
    (sym c.in_ok-ranges.ensures.ranges)
    (sym (segments_said groups _ c.kept.ensures) ∙ c.in_ok-said.ensures.segments)
    (sym c.in_ok-ranges.ensures.names)
    (sym (includes_said groups _ c.kept.ensures) ∙ c.in_ok-said.ensures.includes)
