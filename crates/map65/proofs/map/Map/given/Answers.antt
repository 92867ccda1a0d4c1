use Rattle.std.proofs.Common.{◌≡◌, ◌∙◌, ◌≤◌, List, ap, length, sym, ℕ}
use Rattle.std.specs.Prelude.{IfSome, None, Option, Some}
use Rattle.std.specs.Option.{option_map}
use Rattle.info65.specs.Words.{AreNames, NameView, covering, given_seen}
use Rattle.map65.specs.Words.{Given, MapView}
use Rattle.map65.proofs.NameLemmas.{name-low, name-short}
use Rattle.map65.proofs.map.Map.given.Goals as goal

short : (names : List NameView) (a : ℕ) (o : Option Given) → AreNames names → option_map given_seen o ≡ covering names a → IfSome o (λ n. length n.text.now ≤ 80)
short names a None are is = tt
short names a (Some n) are is = name-short names a (given_seen n) are (sym is)

below : (names : List NameView) (a : ℕ) (o : Option Given) → option_map given_seen o ≡ covering names a → IfSome o (λ n. n.address ≤ a)
below names a None is = tt
below names a (Some n) is = name-low names a (given_seen n) (sym is)

pub returns : goal.returns
returns g c = record {
  value = c.covering.ensures.name ∙ ap (λ (m : MapView). covering m.info.names c.args.address) c.self.view_is;
  short = short c.self.inside.info.now.names c.args.address c.covering.result c.covering.ensures.sound c.covering.ensures.name;
  below = below c.self.inside.info.now.names c.args.address c.covering.result c.covering.ensures.name;
}
