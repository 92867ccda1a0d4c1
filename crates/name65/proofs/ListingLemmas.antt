-- A listing as it is, by names.
use Rattle.std.proofs.Common.{◌≡◌, ◌∙◌, ℕ, false, List, ap, refl, subst, sym}
use Rattle.stmt65.specs.Words.{Layout}
use Rattle.stmt65.specs.declared.language.Language.TheVariants.{Repair}
use Rattle.files65.specs.Place.{layout_of, start_in}
use Rattle.name65.specs.Listings.{IsTaken, IsWritten, edited, start_of}
use Rattle.name65.specs.NamedText.{IsNamed, Listing, MeansTheSame}
use Rattle.name65.specs.declared.setup.Setup.{Setup}

-- a text with its segments and its start
abbrev pub placed : List ℕ → Layout → ℕ → Listing
placed text layout start = record { language = Repair; layout = layout; start = start; text = text }

pub written_as_it_is : (setup : Setup) (text written : List ℕ) (layout : Layout) (start : ℕ) → layout ≡ layout_of setup.info.now.segments setup.naming.now.fill
    → start ≡ start_in layout text setup.info.now.settings.start → setup.naming.now.labels_first ≡ false → IsNamed (placed text layout start) setup written → MeansTheSame (placed text layout start) written
    → IsWritten setup text written
written_as_it_is setup text written layout start e s f n m =
    let at : start ≡ start_of setup text = s ∙ ap (λ l. start_in l text setup.info.now.settings.start) e in record {
      taken = text;
      is_taken = subst (λ b. IsTaken b (edited setup (start_of setup text) text) text) (sym f) refl;
      named = subst (λ a. IsNamed (edited setup a text) setup written) at (subst (λ l. IsNamed (placed text l start) setup written) e n);
      same = subst (λ a. MeansTheSame (edited setup a text) written) at (subst (λ l. MeansTheSame (placed text l start) written) e m);
    }
