-- The text of a listing is read line by line.
use Rattle.std.proofs.Common.{◌≡◌, ℕ, true, eqb, ◌+◌, ◌-◌, ◌<◌, List, ◌∷◌, ◌++◌, length, map, Option, Some, None, refl, ap, ◌∙◌, arith, append_assoc, []}
use Rattle.std.specs.Prelude.{IfSome, codes, not, replicate}
use Rattle.std.specs.List.{flat_map, list_all}
use Rattle.std.proofs.lemmas.Bool.{and_parts, cond_both, not-true}
use Rattle.std.proofs.lemmas.List.Elements.{All-drop, All-take}
use Rattle.info65.specs.Names as given
use Rattle.info65.specs.Words.{AreSegments}
use Rattle.stmt65.specs.Views as view
use Rattle.stmt65.specs.Words.{IsPrintable, PrintsAs, SourceLine, StatementView, TakesLabel, free, meaning_in, meaning_of, parts, reading_of, readings, source_line, with_label}
use Rattle.text65.specs.Lines.{onto_first, text_lines}
use Rattle.da65.specs.Words.{Listing, ListingLine, Style, TextGivesImage, assignment_line, base_name, begins, comment_lines, constant_lines, constants, ending_lines, forward_lines, forwards, group_addresses, group_bytes, group_len, group_lines, has_constant_line, is_base, label_at, labelled, line_text, lines_of, listing, listing_below, names_of, opening_lines, plain, reading_of_line, segment_statement, separator, statement_at, statement_lines, style_of, text_of, with_empty_line}
use Rattle.map65.specs.Words.{AreBytes, IsPlaced, MapView, addresses, bytes_from, opcodes, role_of, segment_at}
use Rattle.da65.proofs.Blocks.EachLine.{Each, HoldsBeside, each_append, each_comment, each_ending, each_filtered, each_flat, each_opening}
use Rattle.da65.proofs.NextLine.CommentLemmas.{comment-printable, segment-printable}
use Rattle.da65.proofs.Groups.DefinedLemmas.{Defined, defined-base}
use Rattle.da65.proofs.Statements.LabelLaws.{group_takes}
use Rattle.da65.proofs.Blocks.WholeBlock.{listing_gives_image}
use Rattle.da65.proofs.Names.NameTexts.{IsNameText, base-text}
use Rattle.da65.proofs.Statements.PrintLaws.{CanPrint, StatementPrints, prints, statement_prints}
use Rattle.da65.proofs.Groups.ShapeLemmas.{groups_are_groups}
use Rattle.da65.proofs.Names.TargetBounds.{base-small}

-- ---- lines of a text

pub first_line : (l rest : List ℕ) → list_all (λ b. not (eqb b 10)) l ≡ true → text_lines (l ++ 10 ∷ rest) ≡ l ∷ text_lines rest
unfolding text_lines
first_line [] rest h = refl
first_line (b ∷ l) rest h = let both = and_parts (not (eqb b 10)) _ h in rw (not-true (eqb b 10) both.0) (ap (onto_first b) (first_line l rest both.1))

no_lines : text_lines [] ≡ []
unfolding text_lines
no_lines = refl

first_reading : (bytes : List ℕ) (r : SourceLine) (rest : List ℕ) → PrintsAs bytes r → readings Listing (bytes ++ rest) ≡ Some r ∷ readings Listing rest
first_reading bytes r rest h = grind (arith, append_assoc, first_line)

-- ---- the lines of a listing

text_reads : (t : Style) (ls : List ListingLine) → Each (CanPrint t) ls → readings Listing (text_of (map (line_text t) ls)) ≡ map reading_of_line ls
unfolding text_of
text_reads t [] h = ap (λ (ls : List (List ℕ)). map (λ l. reading_of Listing (parts Listing l)) ls) no_lines
text_reads t (l ∷ ls) h =
    first_reading (line_text t l) (with_label l.label (source_line l.statement)) (text_of (map (line_text t) ls)) (prints t l h.0)
    ∙ ap (λ (rs : List (Option SourceLine)). reading_of_line l ∷ rs) (text_reads t ls h.1)

plain_prints : (t : Style) (s : StatementView) → StatementPrints s → CanPrint t (plain s)
plain_prints t s h = record { statement = h; room = tt; label = tt }

blank_prints : (t : Style) → CanPrint t (plain view.blank)
blank_prints t = plain_prints t view.blank (record { printable = tt; width = tt; names = tt })

remark_prints : (t : Style) (text : List ℕ) → IsPrintable (view.remark text) → CanPrint t (plain (view.remark text))
remark_prints t text h = plain_prints t (view.remark text) (record { printable = h; width = tt; names = tt })

empty_print : (t : Style) (ls : List ListingLine) → Each (CanPrint t) ls → Each (CanPrint t) (with_empty_line ls)
empty_print t [] h = tt
empty_print t (l ∷ ls) h = each_append (CanPrint t) (l ∷ ls) (plain view.blank ∷ []) h (blank_prints t, tt)

labelled_print : (t : Style) (label : Option (List ℕ)) (s : StatementView) (a : ℕ) (bytes : List ℕ) → TakesLabel s → StatementPrints s → IfSome label IsNameText
    → Each (CanPrint t) (labelled t.columns label s a bytes)
labelled_print t None s a bytes takes h is = (record { statement = h; room = tt; label = tt }, tt)
labelled_print t (Some name) s a bytes takes h is = grind (arith, plain_prints)

module _ (m : MapView) (placed : IsPlaced m.image) (are : AreBytes m.image.bytes) (names : given.AreNames m.info.names) (segments : AreSegments m.info.segments) where
  abbrev style : Style
  style = style_of m.info.settings

  -- the text of a base, and where it lies
  base_is : (v : ℕ) → is_base (names_of m) v ≡ true → IsNameText (base_name (names_of m) v) × (v < 65536)
  base_is v is =
      let b : Defined m v = defined-base m v is in
      (rw b.is (base-text m v b.base names b.is), base-small m v b.base placed are names b.is)

  segment_prints : (o : Option (List ℕ)) (a : ℕ) → segment_at m a ≡ o → CanPrint style (plain (segment_statement o))
  segment_prints None a e = plain_prints style view.code (record { printable = tt; width = tt; names = tt })
  segment_prints (Some name) a e = let is = segment-printable m a name segments e in plain_prints style (view.segment name) (record { printable = is.0; width = tt; names = is.1 })

  beside_prints : HoldsBeside m (CanPrint style)
  unfolding separator
  beside_prints = record {
    blank = blank_prints style;
    separates = remark_prints style (replicate 76 45) (omega arith, refl);
    enters = λ a. segment_prints (segment_at m a) a refl;
    comment = λ a text e. remark_prints style text (comment-printable m a text names e);
  }

  constant_prints : (v : ℕ) → Each (CanPrint style) (constant_lines m v)
  constant_prints v =
      cond_both (has_constant_line (names_of m) v) (comment_lines m v ++ assignment_line (names_of m) v ∷ []) [] (Each (CanPrint style))
      (λ is.
      let b = base_is v (and_parts (is_base (names_of m) v) _ is).0 in
      each_append (CanPrint style) (comment_lines m v) (assignment_line (names_of m) v ∷ []) (each_comment m (CanPrint style) beside_prints v)
      (plain_prints style (view.assignment (base_name (names_of m) v) v) (record { printable = b.0.long; width = b.1; names = b.0.name }), tt))
      (λ _. tt)

  forward_prints : (first v : ℕ) → Each (CanPrint style) (forward_lines (names_of m) first v)
  forward_prints first v =
      cond_both (is_base (names_of m) v) (plain (view.forward (base_name (names_of m) v) (v - first)) ∷ []) [] (Each (CanPrint style))
      (λ is.
      let b = base_is v is in
      (plain_prints style (view.forward (base_name (names_of m) v) (v - first)) (record { printable = b.0.long; width = omega (arith, b.1); names = b.0.name }), tt))
      (λ _. tt)

  label_text : (a : ℕ) → IfSome (label_at (names_of m) a) IsNameText
  label_text a = cond_both (is_base (names_of m) a) (Some (base_name (names_of m) a)) None (λ o. IfSome o IsNameText) (λ is. (base_is a is).0) (λ _. tt)

  group_print : (a : ℕ) → begins m a ≡ true → Each (CanPrint style) (group_lines m a)
  unfolding group_lines statement_lines
  group_print a is =
      let group = groups_are_groups m a is in
      let statement = statement_prints m a names placed (All-take (λ b. b < 256) (group_len m a) (bytes_from m.image a) (All-drop (λ b. b < 256) (a - m.image.start) m.image.bytes are)) is in
      each_append (CanPrint style) (opening_lines m a) _ (each_opening m (CanPrint style) beside_prints a)
      (each_append (CanPrint style) (forwards (names_of m) a (group_len m a - 1) (a + 1)) _ (each_flat (CanPrint style) (forward_lines (names_of m) a) (forward_prints a) (addresses (group_len m a - 1) (a + 1)))
      (each_append (CanPrint style) (labelled style.columns (label_at (names_of m) a) (statement_at m a) a (group_bytes m a)) (ending_lines m a)
      (labelled_print style (label_at (names_of m) a) (statement_at m a) a (group_bytes m a) (group_takes (names_of m) (opcodes m) (role_of m.info a) a _ group.of) statement (label_text a))
      (each_ending m (CanPrint style) beside_prints a)))

  groups_print : Each (CanPrint style) (flat_map (group_lines m) (group_addresses m))
  unfolding group_addresses
  groups_print = each_filtered (CanPrint style) (group_lines m) (begins m) group_print (addresses (length m.image.bytes) m.image.start)

  below_prints : (limit : ℕ) → Each (CanPrint style) (listing_below limit m)
  unfolding listing_below
  below_prints limit =
      let title : CanPrint style (plain (view.remark (codes "da65 listing"))) = remark_prints style (codes "da65 listing") (omega arith, refl) in
      let set_cpu : CanPrint style (plain (view.set_cpu m.info.settings.cpu)) = plain_prints style (view.set_cpu m.info.settings.cpu) (record { printable = tt; width = tt; names = tt }) in
      (title, (blank_prints style, (set_cpu, (blank_prints style, each_append (CanPrint style) (with_empty_line (constants m limit 0)) _ (empty_print style (constants m limit 0) (each_flat (CanPrint style) (constant_lines m) constant_prints (addresses limit 0))) groups_print))))

  pub listing_prints : Each (CanPrint style) (listing m)
  unfolding listing
  listing_prints = below_prints 65536

pub text_gives_image : TextGivesImage
unfolding meaning_in lines_of
text_gives_image m placed are names segments none =
    ap (meaning_of free m.image.start) (text_reads (style_of m.info.settings) (listing m) (listing_prints m placed are names segments)) ∙ listing_gives_image m placed are names none
