-- A listing, from its first line to its last.
use Rattle.std.proofs.Common.{◌≡◌, ℕ, true, false, ◌+◌, ◌<◌, ◌≤◌, ◌∷◌, length, sym, arith, []}
use Rattle.std.specs.Prelude.{codes}
use Rattle.std.specs.List.{flat_map}
use Rattle.std.proofs.Math.Bool.{and-false}
use Rattle.std.proofs.lemmas.Bool.{le-ltb}
use Rattle.std.proofs.lemmas.Bool.Decides.{nat_tests}
use Rattle.da65.specs.Words.{AreSound, Cpu, ListingGivesImage, ListingLine, M6502, AddressNames, NamesAreDefinedOnce, constants, group_addresses, group_lines, is_base, listing, listing_below, names_of, plain, readings_of, skips, with_empty_line}
use Rattle.info65.specs.Names as given
use Rattle.stmt65.specs.Views as view
use Rattle.stmt65.specs.Words.{final, free, initial, meaning_of}
use Rattle.map65.specs.Words.{AreBytes, ImageView, IsPlaced, MapView, end_of}
use Rattle.da65.proofs.Blocks.GroupBlocks.{groups_give}
use Rattle.da65.proofs.Blocks.Knowledge.{knows_here, knows_nothing}
use Rattle.da65.proofs.Blocks.LineBlocks.{cpu_gives, empty_line_gives, quiet_blank, quiet_gives, quiet_remark}
use Rattle.da65.proofs.Blocks.LineLaws.{Gives, Leads, gives_append, gives_from, gives_to, point}
use Rattle.da65.proofs.Blocks.NameBlocks.{constants_give, constants_to, names_to}
use Rattle.da65.proofs.Groups.GroupLemmas.{first_place, groups-first}
use Rattle.da65.proofs.Names.MapNames.{names_are_sound}

no-constants : (m : AddressNames) (v : ℕ) → false ≡ constants_to m 0 v
no-constants m v = rw (le-ltb v 0 (omega arith)) (sym (and-false (m.has_constant v)))

-- below all constants those of the addresses before the image are known, since all bases there are constants
all-constants : (image : ImageView) (m : AddressNames) (v n : ℕ) → AreSound image m → is_base m v ≡ true → v < n → constants_to m n v ≡ names_to m image.start v
all-constants image m v n names base h = grind (arith, nat_tests)

all-names : (image : ImageView) (m : AddressNames) (v : ℕ) → AreSound image m → is_base m v ≡ true → names_to m (end_of image) v ≡ true
all-names image m v names base = rw (names.constants v base) (grind (arith, nat_tests))

module _ (m : MapView) (placed : IsPlaced m.image) (are : AreBytes m.image.bytes) (known : given.AreNames m.info.names) (none : skips m ≡ false) where
  abbrev n : AddressNames
  n = names_of m

  abbrev cpu : Cpu
  cpu = m.info.settings.cpu

  names : AreSound m.image n
  names = names_are_sound m placed are known none

  room : m.image.start ≤ 65536
  room = omega (arith, placed.room)

  groups : Gives n (point m.image.start cpu (names_to n m.image.start)) (flat_map (group_lines m) (group_addresses m)) m.image.bytes (point (end_of m.image) cpu (names_to n (end_of m.image)))
  groups =
      let place : m.image.start + 0 ≡ m.image.start = omega arith in
      rw (groups-first m) (rw place at (groups_give m names placed are none (length m.image.bytes) 0 (omega arith) (first_place m)))

  below_gives : (limit : ℕ) → 65536 ≤ limit → Gives n (point m.image.start M6502 (λ v. false)) (listing_below limit m) m.image.bytes (point (end_of m.image) cpu (λ v. true))
  unfolding listing_below
  below_gives limit large =
      let start : ℕ = m.image.start in
      let title : ListingLine = plain (view.remark (codes "da65 listing")) in
      let front = quiet_gives n start M6502 (λ v. false) (title ∷ plain view.blank ∷ []) (quiet_remark _, (quiet_blank, tt)) room in
      let set = cpu_gives n start M6502 cpu (λ v. false) room in
      let blank = quiet_gives n start cpu (λ v. false) (plain view.blank ∷ []) (quiet_blank, tt) room in
      let named = empty_line_gives n _ (constants m limit 0) start cpu _ room (gives_from (λ v. false) (λ v b. no-constants n v) (constants_give m names start room cpu limit 0)) in
      let constant = gives_to (names_to n start) (λ v b. all-constants m.image n v (0 + limit) names b (omega (arith, names.in_space v b, large))) named in
      let listed = gives_to (λ v. true) (λ v b. all-names m.image n v names b) groups in
      gives_append (title ∷ plain view.blank ∷ []) _ front
      (gives_append (plain (view.set_cpu cpu) ∷ []) _ set
      (gives_append (plain view.blank ∷ []) _ blank (gives_append (with_empty_line (constants m limit 0)) _ constant listed)))

  all_leads : Leads n (point m.image.start M6502 (λ v. false)) [] (listing m) m.image.bytes (point (end_of m.image) cpu (λ v. true))
  unfolding listing
  all_leads = (below_gives 65536 (omega arith)).leads [] (knows_nothing n)

pub names_are_defined_once : NamesAreDefinedOnce
names_are_defined_once m b placed are known none base =
    let all = all_leads m placed are known none in
    rw all.reaches (all.known.found b base)

pub listing_gives_image : ListingGivesImage
unfolding meaning_of
listing_gives_image m placed are known none =
    let all = all_leads m placed are known none in
    all.codes (final (initial free m.image.start) (readings_of m)).above (λ at. rw all.reaches (knows_here m.image (names_of m) at all.all_above (names m placed are known none) all.known)) 1
