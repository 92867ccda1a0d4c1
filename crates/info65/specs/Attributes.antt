-- The groups of an information file, their attributes, what the values of these have to be, and the words
-- that stand for a type or a boolean.
use Rattle.std.specs.Prelude.{Bool, true, false, ℕ, List, Option, Some, None, codes, if◌then◌else◌}
use Rattle.std.specs.Str.{str_eq_ignore_ascii_case}
use Rattle.info65.specs.Types.{Attribute, ValueForm, GroupKind, RangeType}
use Rattle.info65.specs.declared.syntax.attribute.GroupKind.TheVariants as group
use Rattle.info65.specs.declared.syntax.attribute.Attribute.TheVariants as attribute
use Rattle.info65.specs.declared.syntax.attribute.ValueForm.TheVariants as form
use Rattle.info65.specs.declared.information.range.RangeType.TheVariants as range_type

-- the group of this name, with letters of any case
unfoldable pub group_named : List ℕ → Option GroupKind
group_named text =
    if str_eq_ignore_ascii_case text (codes "GLOBAL") then Some group.Global
    else (if str_eq_ignore_ascii_case text (codes "RANGE") then Some group.Range
    else (if str_eq_ignore_ascii_case text (codes "LABEL") then Some group.Label
    else (if str_eq_ignore_ascii_case text (codes "SEGMENT") then Some group.Segment
    else (if str_eq_ignore_ascii_case text (codes "ASMINC") then Some group.Include
    else None))))

-- the attribute of a group by its name, with letters of any case
unfoldable pub attribute_named : GroupKind → List ℕ → Option Attribute
attribute_named group.Global text =
    if str_eq_ignore_ascii_case text (codes "INPUTNAME") then Some attribute.InputName
    else (if str_eq_ignore_ascii_case text (codes "OUTPUTNAME") then Some attribute.OutputName
    else (if str_eq_ignore_ascii_case text (codes "INPUTOFFS") then Some attribute.InputOffset
    else (if str_eq_ignore_ascii_case text (codes "INPUTSIZE") then Some attribute.InputSize
    else (if str_eq_ignore_ascii_case text (codes "STARTADDR") then Some attribute.StartAddress
    else (if str_eq_ignore_ascii_case text (codes "CPU") then Some attribute.Cpu
    else (if str_eq_ignore_ascii_case text (codes "COMMENTS") then Some attribute.Comments
    else (if str_eq_ignore_ascii_case text (codes "MNEMONICCOLUMN") then Some attribute.MnemonicColumn
    else (if str_eq_ignore_ascii_case text (codes "ARGUMENTCOLUMN") then Some attribute.ArgumentColumn
    else (if str_eq_ignore_ascii_case text (codes "COMMENTCOLUMN") then Some attribute.CommentColumn
    else (if str_eq_ignore_ascii_case text (codes "TEXTCOLUMN") then Some attribute.TextColumn
    else (if str_eq_ignore_ascii_case text (codes "LABELBREAK") then Some attribute.LabelBreak
    else (if str_eq_ignore_ascii_case text (codes "HEXOFFS") then Some attribute.HexOffsets
    else (if str_eq_ignore_ascii_case text (codes "NEWLINEAFTERJMP") then Some attribute.NewlineAfterJmp
    else (if str_eq_ignore_ascii_case text (codes "NEWLINEAFTERRTS") then Some attribute.NewlineAfterRts
    else (if str_eq_ignore_ascii_case text (codes "PAGELENGTH") then Some attribute.PageLength
    else None)))))))))))))))
attribute_named group.Range text =
    if str_eq_ignore_ascii_case text (codes "START") then Some attribute.Start
    else (if str_eq_ignore_ascii_case text (codes "END") then Some attribute.End
    else (if str_eq_ignore_ascii_case text (codes "SIZE") then Some attribute.Size
    else (if str_eq_ignore_ascii_case text (codes "TYPE") then Some attribute.Role
    else (if str_eq_ignore_ascii_case text (codes "NAME") then Some attribute.Name
    else (if str_eq_ignore_ascii_case text (codes "COMMENT") then Some attribute.Comment
    else None)))))
attribute_named group.Label text =
    if str_eq_ignore_ascii_case text (codes "ADDR") then Some attribute.Address
    else (if str_eq_ignore_ascii_case text (codes "NAME") then Some attribute.Name
    else (if str_eq_ignore_ascii_case text (codes "SIZE") then Some attribute.Size
    else (if str_eq_ignore_ascii_case text (codes "COMMENT") then Some attribute.Comment
    else None)))
attribute_named group.Segment text =
    if str_eq_ignore_ascii_case text (codes "START") then Some attribute.Start
    else (if str_eq_ignore_ascii_case text (codes "END") then Some attribute.End
    else (if str_eq_ignore_ascii_case text (codes "NAME") then Some attribute.Name
    else None))
attribute_named group.Include text =
    if str_eq_ignore_ascii_case text (codes "FILE") then Some attribute.File
    else (if str_eq_ignore_ascii_case text (codes "COMMENTSTART") then Some attribute.CommentStart
    else (if str_eq_ignore_ascii_case text (codes "IGNOREUNKNOWN") then Some attribute.IgnoreUnknown
    else None))

-- what the value of an attribute has to be
unfoldable pub form_of : Attribute → ValueForm
form_of attribute.InputName = form.FileName
form_of attribute.OutputName = form.FileName
form_of attribute.InputOffset = form.Number 0 16_777_216
form_of attribute.InputSize = form.Number 1 0x1_0000
form_of attribute.StartAddress = form.Address
form_of attribute.Cpu = form.CpuText
form_of attribute.Comments = form.Number 0 4
form_of attribute.MnemonicColumn = form.Number 1 120
form_of attribute.ArgumentColumn = form.Number 1 120
form_of attribute.CommentColumn = form.Number 1 120
form_of attribute.TextColumn = form.Number 1 120
form_of attribute.LabelBreak = form.Number 0 120
form_of attribute.HexOffsets = form.Boolean
form_of attribute.NewlineAfterJmp = form.Boolean
form_of attribute.NewlineAfterRts = form.Boolean
form_of attribute.PageLength = form.Number 0 0
form_of attribute.Start = form.Address
form_of attribute.End = form.Address
form_of attribute.Size = form.Number 1 0x1_0000
form_of attribute.Role = form.TypeWord
form_of attribute.Name = form.Name
form_of attribute.Comment = form.Comment
form_of attribute.Address = form.Address
form_of attribute.File = form.FileName
form_of attribute.CommentStart = form.Character
form_of attribute.IgnoreUnknown = form.Boolean

-- what the bytes of a range are, by a type word with letters of any case
unfoldable pub type_named : List ℕ → Option RangeType
type_named text =
    if str_eq_ignore_ascii_case text (codes "CODE") then Some range_type.Code
    else (if str_eq_ignore_ascii_case text (codes "BYTETABLE") then Some range_type.ByteTable
    else (if str_eq_ignore_ascii_case text (codes "WORDTABLE") then Some range_type.WordTable
    else (if str_eq_ignore_ascii_case text (codes "DBYTETABLE") then Some range_type.DbyteTable
    else (if str_eq_ignore_ascii_case text (codes "DWORDTABLE") then Some range_type.DwordTable
    else (if str_eq_ignore_ascii_case text (codes "ADDRTABLE") then Some range_type.AddrTable
    else (if str_eq_ignore_ascii_case text (codes "RTSTABLE") then Some range_type.RtsTable
    else (if str_eq_ignore_ascii_case text (codes "TEXTTABLE") then Some range_type.TextTable
    else (if str_eq_ignore_ascii_case text (codes "SKIP") then Some range_type.Skip
    else None))))))))

-- a boolean word, with letters of any case
unfoldable pub boolean_named : List ℕ → Option Bool
boolean_named text =
    if str_eq_ignore_ascii_case text (codes "ON") then Some true
    else (if str_eq_ignore_ascii_case text (codes "TRUE") then Some true
    else (if str_eq_ignore_ascii_case text (codes "YES") then Some true
    else (if str_eq_ignore_ascii_case text (codes "OFF") then Some false
    else (if str_eq_ignore_ascii_case text (codes "FALSE") then Some false
    else (if str_eq_ignore_ascii_case text (codes "NO") then Some false
    else None)))))
