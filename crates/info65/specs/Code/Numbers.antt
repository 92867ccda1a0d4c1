-- Rows of numbers.
use Rattle.std.specs.Prelude.{◌≡◌, ◌==◌, ◌<◌, ◌/◌, ◌%◌, ℕ, List, [], get_or, length, if◌then◌else◌}

-- how many numbers there are, and the list of them, which is empty where each is 0
pub record NumbersView : Type 0 where
  pub count : ℕ
  pub cells : List ℕ

-- the cell at this place has this number, and each other cell what it had
abbrev pub IsSet : ℕ → ℕ → List ℕ → List ℕ → Type 0
IsSet place number old new = (k : ℕ) → get_or new k 0 ≡ (if place == k then number else get_or old k 0)

-- ---- a number for each address, in pages

abbrev pub blank_page : NumbersView
blank_page = record { count = 256; cells = [] }

-- the page of an address
abbrev pub page_at : List NumbersView → ℕ → NumbersView
page_at pages a = get_or pages (a / 256) blank_page

abbrev pub number_at : List NumbersView → ℕ → ℕ
number_at pages a = get_or (page_at pages a).cells (a % 256) 0

-- the number of the address can be set
abbrev pub HasCell : List NumbersView → ℕ → Type 0
HasCell pages a = (a / 256 < length pages) × (a % 256 < length (page_at pages a).cells)

-- each page has a number for each of its addresses
abbrev pub ArePages : List NumbersView → Type 0
ArePages pages = (p : ℕ) → (get_or pages p blank_page).count ≡ 256

-- each page is what it was
abbrev pub SamePages : List NumbersView → List NumbersView → Type 0
SamePages old new = (p : ℕ) → get_or new p blank_page ≡ get_or old p blank_page
