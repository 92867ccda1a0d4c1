-- What is read of an information file with what is written after it.
use Rattle.std.specs.Prelude.{◌≡◌, ◌++◌, [], ◌∷◌, ℕ, List, Ok}
use Rattle.info65.specs.Words.{InfoView, OptionsView, information}

-- the file, a line feed, and the text
abbrev pub followed_by : List ℕ → List ℕ → List ℕ
followed_by file text = (file ++ (10 ∷ [])) ++ text

-- Both together are accepted.
pub record IsAccepted (o : OptionsView) (file text : List ℕ) : Type 0 where
  pub info : InfoView
  pub accepted : information o (followed_by file text) ≡ Ok info
