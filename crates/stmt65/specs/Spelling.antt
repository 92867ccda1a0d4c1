-- How a line of a listing is spelled: what is written, item by item. What only a repair says is not spelled there.
--
-- `(E),y`, say, is `(`, the expression, `)`, `,` and the word `y`. Words may be written in any letter case, names are
-- exact, and numbers count by their value.
use Rattle.stmt65.specs.Signs.{star, plus, comma, minus, colon}
use Rattle.stmt65.specs.declared.source_line.Notation.TheVariants.{Half}
use Rattle.std.specs.Prelude.{if◌then◌else◌, ◌++◌, ◌==◌, ◌∷◌, ◌≡◌, ◌⊎◌, Bool, List, None, Some, [], codes, false, true, ℕ}
use Rattle.std.specs.Char.{is_ascii_alphabetic}
use Rattle.stmt65.specs.Types.{Minus, Zero, expression, has_name_form, text_of}
use Rattle.stmt65.specs.declared.source_line.Minus.TheVariants.{One as MinusOne}
use Rattle.stmt65.specs.SourceLine.{Value, NumberValue, NameValue, LessValue, DifferenceValue, Form, One, Datum, NumberDatum, StringDatum, ValueDatum, HalfDatum, Operation, Nothing, Instr, Data, Values, Reserve, Segment, Code, SetCpu, SourceLine, Assignment, PlaceAssignment, Statement}
use Rattle.stmt65.specs.Forms.{form_text, form_values, has_prefix}
use Rattle.stmt65.specs.Parts.{Part, Word, Number, Text, Define, Mark, number_of}
use Rattle.stmt65.specs.Directives.{directive_text}
use Rattle.stmt65.specs.Names.{same, is_name}

-- what can stand in a line: a word in any case, a character, `:=`, a name with its case, a number, a string,
-- a string of the form of a name, an expression, and lists joined by commas; and what no listing can have
pub data Item : Type 0 where
  word : List ℕ → Item
  mark : ℕ → Item
  define : Item
  name : List ℕ → Item
  number : ℕ → Item
  string : List ℕ → Item
  quoted_name : List ℕ → Item
  value : Value → Item
  data_list : List Datum → Item
  value_list : List Value → Item
  unwritten : Item

-- a number of this value, however it is written
abbrev pub IsNumber : ℕ → List Part → Type 0
IsNumber n ps = (text : List ℕ) × (n ≡ number_of text) × (ps ≡ Number text ∷ [])

-- nothing, or `+` and a number
abbrev pub IsPlus : ℕ → List Part → Type 0
IsPlus n ps = ((n ≡ 0) × (ps ≡ [])) ⊎ ((text : List ℕ) × (n ≡ number_of text) × (ps ≡ Mark plus ∷ Number text ∷ []))

-- `-` and the digit 1, or nothing
abbrev pub IsMinus : Minus → List Part → Type 0
IsMinus MinusOne ps = ps ≡ Mark minus ∷ Number (codes "1") ∷ []
IsMinus Zero ps = ps ≡ []

-- a number; or a name, perhaps `+` and a number, perhaps `-1`
abbrev pub IsValue : Value → List Part → Type 0
IsValue (NumberValue n) ps = IsNumber n ps
IsValue (NameValue w n less) ps = (added : List Part) × (taken : List Part) × (ps ≡ Word w ∷ (added ++ taken)) × (is_name w ≡ true) × IsPlus n added × IsMinus less taken
IsValue (LessValue w n) ps = ⊥
IsValue (DifferenceValue w v) ps = ⊥

-- a number or a string
abbrev pub IsDatum : Datum → List Part → Type 0
IsDatum (NumberDatum n) ps = IsNumber n ps
IsDatum (StringDatum t) ps = ps ≡ Text t ∷ []
IsDatum (ValueDatum v) ps = ⊥
IsDatum (HalfDatum half v) ps = ⊥

-- one or more, joined by commas
abbrev pub IsList : {A : Type 0} → (A → List Part → Type 0) → List A → List Part → Type 0
IsList Is [] ps = ⊥
IsList Is (x ∷ []) ps = Is x ps
IsList Is (x ∷ y ∷ xs) ps = (front : List Part) × (rest : List Part) × (ps ≡ front ++ Mark comma ∷ rest) × Is x front × IsList Is (y ∷ xs) rest

-- the parts that spell an item
abbrev pub IsItem : Item → List Part → Type 0
IsItem (word text) ps = (w : List ℕ) × (same w text ≡ true) × (ps ≡ Word w ∷ [])
IsItem (mark b) ps = ps ≡ Mark b ∷ []
IsItem define ps = ps ≡ Define ∷ []
IsItem (name w) ps = (is_name w ≡ true) × (ps ≡ Word w ∷ [])
IsItem (number n) ps = IsNumber n ps
IsItem (string t) ps = ps ≡ Text t ∷ []
IsItem (quoted_name t) ps = (has_name_form t ≡ true) × (ps ≡ Text t ∷ [])
IsItem (value v) ps = IsValue v ps
IsItem (data_list xs) ps = IsList IsDatum xs ps
IsItem (value_list vs) ps = IsList IsValue vs ps
IsItem unwritten ps = ⊥

-- the parts of the items, one after the other
unfoldable pub Spells : List Item → List Part → Type 0
Spells [] ps = ps ≡ []
Spells (i ∷ is) ps = (front : List Part) × (rest : List Part) × (ps ≡ front ++ rest) × IsItem i front × Spells is rest

-- `a:` or nothing
abbrev pub prefix_items : Bool → List Item
prefix_items true = word (codes "a") ∷ mark colon ∷ []
prefix_items false = []

-- what a character of a pattern stands for by itself: a letter is a word
abbrev pub pattern_item : ℕ → Item
pattern_item c = if is_ascii_alphabetic c then word (c ∷ []) else mark c

-- a pattern, with the next of the expressions for each E
abbrev pub pattern_items : List ℕ → List Value → List Item
pattern_items [] vs = []
pattern_items (c ∷ pattern) [] = pattern_item c ∷ pattern_items pattern []
pattern_items (c ∷ pattern) (v ∷ vs) = if c == expression then value v ∷ pattern_items pattern vs else pattern_item c ∷ pattern_items pattern (v ∷ vs)

-- an operand: its pattern, after an optional `a:`
abbrev pub form_items : Form → List Item
form_items (One (Half half) v) = unwritten ∷ []
form_items form = prefix_items (has_prefix form) ++ pattern_items (form_text form) (form_values form)

-- a mnemonic and its operand, or an operation of the assembler and what it takes
abbrev pub operation_items : Operation → List Item
operation_items Nothing = []
operation_items (Instr m f) = word (text_of m) ∷ form_items f
operation_items (Data xs) = word (codes ".byte") ∷ data_list xs ∷ []
operation_items (Values d vs) = word (directive_text d) ∷ value_list vs ∷ []
operation_items (Reserve n v) = unwritten ∷ []
operation_items (Segment t) = word (codes ".segment") ∷ quoted_name t ∷ []
operation_items Code = word (codes ".code") ∷ []
operation_items (SetCpu t) = word (codes ".setcpu") ∷ string t ∷ []

-- `name := number`, `name := * + n`, or an operation, after an optional `name:`
abbrev pub line_items : SourceLine → List Item
line_items (Assignment w n) = name w ∷ define ∷ number n ∷ []
line_items (PlaceAssignment w n) = name w ∷ define ∷ mark star ∷ mark plus ∷ number n ∷ []
line_items (Statement None o) = operation_items o
line_items (Statement (Some w) o) = name w ∷ mark colon ∷ operation_items o

-- ps is a spelling of the line
abbrev pub IsSpelling : SourceLine → List Part → Type 0
IsSpelling r ps = Spells (line_items r) ps
