-- What contracts see of options, settings and an information file: names as lists of bytes.
use Rattle.std.specs.Prelude.{◌≤◌, ℕ, Bool, false, IfSome, List, Option, None, option_map, String}
use Rattle.std.specs.String.{string_bytes}
use Rattle.info65.specs.Types.{Cpu, M6502, RangeSpec}

abbrev pub name_seen : {Z : Type 0} → Option (String Z) → Option (List ℕ)
name_seen = option_map string_bytes

-- what the words of a command line ask for
pub record OptionsView : Type 0 where
  pub info : Option (List ℕ)
  pub input : Option (List ℕ)
  pub output : Option (List ℕ)
  pub start : Option ℕ
  pub cpu : Option Cpu
  pub comments : Option ℕ
  pub mnemonic_column : Option ℕ
  pub argument_column : Option ℕ
  pub comment_column : Option ℕ
  pub text_column : Option ℕ
  pub label_break : Option ℕ
  pub hexoffs : Bool
  pub help : Bool
  pub version : Bool

abbrev pub no_options : OptionsView
no_options = record {
  info = None;
  input = None;
  output = None;
  start = None;
  cpu = None;
  comments = None;
  mnemonic_column = None;
  argument_column = None;
  comment_column = None;
  text_column = None;
  label_break = None;
  hexoffs = false;
  help = false;
  version = false;
}

-- a column of a line
abbrev pub IsColumn : ℕ → Type 0
IsColumn n = (1 ≤ n) × (n ≤ 120)

-- the limits of the numbers of the options
pub record AreOptionNumbers (level mnemonic argument comment text label : Option ℕ) : Type 0 where
  pub comments : IfSome level (λ n. n ≤ 4)
  pub mnemonic_column : IfSome mnemonic IsColumn
  pub argument_column : IfSome argument IsColumn
  pub comment_column : IfSome comment IsColumn
  pub text_column : IfSome text IsColumn
  pub label_break : IfSome label (λ n. n ≤ 120)

abbrev pub AreOptions : OptionsView → Type 0
AreOptions o = AreOptionNumbers o.comments o.mnemonic_column o.argument_column o.comment_column o.text_column o.label_break

-- what decides how an image is read and listed
pub record SettingsView : Type 0 where
  pub input : Option (List ℕ)
  pub output : Option (List ℕ)
  pub offset : ℕ
  pub size : Option ℕ
  pub start : Option ℕ
  pub cpu : Cpu
  pub comments : ℕ
  pub mnemonic_column : ℕ
  pub argument_column : ℕ
  pub comment_column : ℕ
  pub text_column : ℕ
  pub label_break : ℕ
  pub hexoffs : Bool
  pub newline_after_jmp : Bool
  pub newline_after_rts : Bool

-- the limits of the numbers of the settings
pub record AreSettingNumbers (from level mnemonic argument comment text label : ℕ) (taken : Option ℕ) : Type 0 where
  pub offset : from ≤ 16_777_216
  pub size : IfSome taken (λ n. (1 ≤ n) × (n ≤ 0x1_0000))
  pub comments : level ≤ 4
  pub mnemonic_column : IsColumn mnemonic
  pub argument_column : IsColumn argument
  pub comment_column : IsColumn comment
  pub text_column : IsColumn text
  pub label_break : label ≤ 120

abbrev pub AreInLimits : SettingsView → Type 0
AreInLimits s =
    AreSettingNumbers s.offset s.comments s.mnemonic_column s.argument_column s.comment_column s.text_column s.label_break s.size

-- a name: its own address, how many addresses it is for from that on, its text, and its comment
pub record NameView : Type 0 where
  pub address : ℕ
  pub size : ℕ
  pub text : List ℕ
  pub comment : Option (List ℕ)

-- a segment: its first and its last address, and its name
pub record SegmentView : Type 0 where
  pub first : ℕ
  pub last : ℕ
  pub name : List ℕ

-- an include file: its name, the byte that begins a comment in it, and whether lines that would be refused
-- are passed over
pub record IncludeView : Type 0 where
  pub file : List ℕ
  pub comment_start : ℕ
  pub ignore_unknown : Bool

-- what an information file says; its names ascend by address
pub record InfoView : Type 0 where
  pub settings : SettingsView
  pub ranges : List RangeSpec
  pub segments : List SegmentView
  pub names : List NameView
  pub includes : List IncludeView
