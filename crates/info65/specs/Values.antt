-- Values of attributes, and their faults.
use Rattle.std.specs.Prelude.{◌≡◌, ◌≤◌, ℕ, Bool, true, false, ◌&&◌, ◌==◌, not, List, Option, Some, None, Result, Ok, Err, length, is_some, nat_le, if◌then◌else◌}
use Rattle.std.specs.List.{list_all}
use Rattle.info65.specs.Types.{Attribute, BadName, Cpu, Expected, ValueForm, InfoFault, NameConflict, OutOfRange, RangeType}
use Rattle.text65.specs.Names.{has_name_form}
use Rattle.info65.specs.Attributes.{boolean_named, form_of, type_named}
use Rattle.isa65.specs.Words.{cpu_named}
use Rattle.info65.specs.Faults.{fault}
use Rattle.info65.specs.Lexemes.{KindView, character, number, string, word}
use Rattle.info65.specs.Names.{has_comment_form}
use Rattle.info65.specs.Tokens.{TokenView}
use Rattle.info65.specs.Views.{OptionsView}
use Rattle.info65.specs.declared.syntax.attribute.Attribute.TheVariants as attribute
use Rattle.info65.specs.declared.syntax.attribute.ValueForm.TheVariants as form

-- the value of an attribute
pub data ValueView : Type 0 where
  a_name : List ℕ → ValueView
  a_comment : List ℕ → ValueView
  a_number : ℕ → ValueView
  an_address : ℕ → ValueView
  a_cpu : Cpu → ValueView
  a_boolean : Bool → ValueView
  a_type : RangeType → ValueView
  a_character : ℕ → ValueView

abbrev pub as_name : Option ValueView → Option (List ℕ)
as_name (Some (a_name text)) = Some text
as_name _ = None

abbrev pub as_comment : Option ValueView → Option (List ℕ)
as_comment (Some (a_comment text)) = Some text
as_comment _ = None

abbrev pub as_number : Option ValueView → Option ℕ
as_number (Some (a_number n)) = Some n
as_number _ = None

abbrev pub as_address : Option ValueView → Option ℕ
as_address (Some (an_address n)) = Some n
as_address _ = None

abbrev pub as_cpu : Option ValueView → Option Cpu
as_cpu (Some (a_cpu c)) = Some c
as_cpu _ = None

abbrev pub as_boolean : Option ValueView → Option Bool
as_boolean (Some (a_boolean b)) = Some b
as_boolean _ = None

abbrev pub as_type : Option ValueView → Option RangeType
as_type (Some (a_type r)) = Some r
as_type _ = None

abbrev pub as_character : Option ValueView → Option ℕ
as_character (Some (a_character b)) = Some b
as_character _ = None

-- bytes of $20 to $7E
abbrev pub are_printable : List ℕ → Bool
are_printable text = list_all (λ b. nat_le 0x20 b && nat_le b 0x7E) text

-- 1 to 255 bytes of $20 to $7E
unfoldable pub is_file_name : List ℕ → Bool
is_file_name text = nat_le 1 (length text) && (nat_le (length text) 255 && are_printable text)

-- the command line gives what this attribute names
unfoldable pub is_on_command_line : OptionsView → Attribute → Bool
is_on_command_line o attribute.InputName = is_some o.input
is_on_command_line o attribute.OutputName = is_some o.output
is_on_command_line o _ = false

-- a file name that the command line does not give
unfoldable pub name_value : OptionsView → Attribute → ℕ → List ℕ → Result ValueView InfoFault
name_value o a line text =
    if not (is_file_name text) then Err (fault line BadName)
    else (if is_on_command_line o a then Err (fault line NameConflict)
    else Ok (a_name text))

-- a text of the form of a name of addresses
abbrev pub label_value : ℕ → List ℕ → Result ValueView InfoFault
label_value line text = if has_name_form text then Ok (a_name text) else Err (fault line BadName)

-- a text of the form of a comment
abbrev pub comment_value : ℕ → List ℕ → Result ValueView InfoFault
comment_value line text = if has_comment_form text then Ok (a_comment text) else Err (fault line BadName)

-- a number within its limits
abbrev pub number_value : ℕ → ℕ → ℕ → ℕ → Result ValueView InfoFault
number_value low high line n = if nat_le low n && nat_le n high then Ok (a_number n) else Err (fault line OutOfRange)

abbrev pub address_value : ℕ → ℕ → Result ValueView InfoFault
address_value line n = if nat_le n 0xFFFF then Ok (an_address n) else Err (fault line OutOfRange)

-- the text of a CPU
abbrev pub cpu_value : ℕ → Option Cpu → Result ValueView InfoFault
cpu_value line (Some c) = Ok (a_cpu c)
cpu_value line None = Err (fault line OutOfRange)

-- a type word
abbrev pub type_value : ℕ → Option RangeType → Result ValueView InfoFault
type_value line (Some r) = Ok (a_type r)
type_value line None = Err (fault line Expected)

-- a boolean: its word, or the number 0 or 1
abbrev pub boolean_value : ℕ → Option Bool → Result ValueView InfoFault
boolean_value line (Some b) = Ok (a_boolean b)
boolean_value line None = Err (fault line Expected)

abbrev pub boolean_of : ℕ → Option Bool
boolean_of n = if n == 0 then Some false else (if n == 1 then Some true else None)

-- a token of the kind that the form takes, or something else was expected
abbrev pub in_form : OptionsView → Attribute → ℕ → List ℕ → ValueForm → KindView → Result ValueView InfoFault
in_form o a line source form.FileName (string text) = name_value o a line text
in_form o a line source form.CpuText (string text) = cpu_value line (cpu_named text)
in_form o a line source form.Address (number n) = address_value line n
in_form o a line source (form.Number low high) (number n) = number_value low high line n
in_form o a line source form.Name (string text) = label_value line text
in_form o a line source form.Comment (string text) = comment_value line text
in_form o a line source form.Boolean word = boolean_value line (boolean_named source)
in_form o a line source form.Boolean (number n) = boolean_value line (boolean_of n)
in_form o a line source form.TypeWord word = type_value line (type_named source)
in_form o a line source form.Character (character b) = Ok (a_character b)
in_form o a line source _ _ = Err (fault line Expected)

-- The value of an attribute, or the first of its faults: another kind of token or an unknown word,
-- outside its limits, not of the form of a name or a comment, a file name that the command line gives too.
unfoldable pub value_of : OptionsView → Attribute → TokenView → Result ValueView InfoFault
value_of o a t = in_form o a t.line t.text (form_of a) t.kind

-- a value of this form
abbrev pub HasForm : ValueForm → ValueView → Type 0
HasForm form.FileName (a_name text) = is_file_name text ≡ true
HasForm form.CpuText (a_cpu c) = Unit {0}
HasForm form.Address (an_address n) = n ≤ 0xFFFF
HasForm form.TypeWord (a_type r) = Unit {0}
HasForm form.Name (a_name text) = has_name_form text ≡ true
HasForm form.Comment (a_comment text) = has_comment_form text ≡ true
HasForm form.Boolean (a_boolean b) = Unit {0}
HasForm form.Character (a_character b) = Unit {0}
HasForm (form.Number low high) (a_number n) = (low ≤ n) × (n ≤ high)
HasForm _ _ = ⊥
