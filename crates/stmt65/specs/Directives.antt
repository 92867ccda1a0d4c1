-- The directives that give numbers, and their words. How a table of them is printed stands in
-- `Tables`, what they code in `Coding`.
use Rattle.std.specs.Prelude.{List, Option, codes, ℕ}
use Rattle.std.specs.List.{find}
use Rattle.stmt65.specs.Types.{ALL, Addr, Dbyt, Directive, Dword}
use Rattle.stmt65.specs.declared.directive.Directive.TheVariants.{Word}
use Rattle.stmt65.specs.Names.{same}

-- what is written
abbrev pub directive_text : Directive → List ℕ
directive_text Word = codes ".word"
directive_text Dbyt = codes ".dbyt"
directive_text Addr = codes ".addr"
directive_text Dword = codes ".dword"

-- the first of these directives that the word is, in any letter case
abbrev pub first_directive_named : List ℕ → List Directive → Option Directive
first_directive_named w directives = find (λ d. same w (directive_text d)) directives

-- the directive that the word is, in any letter case
unfoldable pub directive_named : List ℕ → Option Directive
directive_named w = first_directive_named w ALL
