-- Which tokens spell a function and a file, a case for each line of the grammar.
use Rattle.std.specs.Prelude.{◌≡◌, List, [], ◌∷◌, ◌⊎◌}
use Rattle.grammar.specs.Spelling.{Meant, Many}
use Rattle.pm_wide.specs.Types.{Ty}
use Rattle.gim_text.specs.Meanings.{mark, identifier}
use Rattle.pm_places.specs.declared.span.Span.{Span}
use Rattle.gim_text.specs.declared.token.Token.{Token}
use Rattle.gim_text.specs.declared.token.Token.TheVariants as tokens
use Rattle.gim_text.specs.declared.token.Mark.TheVariants as marks
use Rattle.gim_text.specs.declared.token.Keyword.TheVariants as keywords
use Rattle.gim_text.specs.declared.tree.DeclText.{DeclText}
use Rattle.gim_text.specs.declared.tree.BlockText.{BlockText}
use Rattle.gim_text.specs.declared.tree.FunctionText.{FunctionText}
use Rattle.gim_words.specs.Parentheses.{IsBalanced}
use Rattle.gim_words.specs.Types.{SpellsType}
use Rattle.gim_statements.specs.Grammar.{◌▸◌, AMark, AKeyword, SpellsBlock}

-- type ident
abbrev pub SpellsTyped : DeclText → List Token → Type 0
SpellsTyped decl w = (SpellsType decl.ty ▸ Meant identifier decl.ident) w

-- decl := type ident ';'
abbrev pub SpellsDecl : DeclText → List Token → Type 0
SpellsDecl decl w = (SpellsTyped decl ▸ AMark marks.Semicolon) w

-- ',' type ident
abbrev pub SpellsFurther : DeclText → List Token → Type 0
SpellsFurther decl w = (AMark marks.Comma ▸ SpellsTyped decl) w

-- params := nothing | 'void' | type ident (',' type ident)*
abbrev pub SpellsParams : List DeclText → List Token → Type 0
SpellsParams [] w = (w ≡ []) ⊎ AKeyword keywords.Void w
SpellsParams (param ∷ params) w = (SpellsTyped param ▸ Many SpellsFurther params) w

-- `ssa`
abbrev pub IsSsa : List Token → Type 0
IsSsa w = (at : Span) × (w ≡ tokens.Ssa at ∷ [])

-- tokens whose parentheses pair, with `ssa` among them outside inner parentheses
abbrev pub HoldsSsa : List Token → Type 0
HoldsSsa w = (IsBalanced ▸ IsSsa ▸ IsBalanced) w

-- head := type '__GIMPLE' '(' balanced ')' ident, where the list holds `ssa`
abbrev pub SpellsHead : Ty → Span → List Token → Type 0
SpellsHead result name w = (SpellsType result ▸ AKeyword keywords.Gimple ▸ AMark marks.Open ▸ HoldsSsa ▸ AMark marks.Close ▸ Meant identifier name) w

-- '(' params ')'
abbrev pub SpellsParamsBetween : List DeclText → List Token → Type 0
SpellsParamsBetween params w = (AMark marks.Open ▸ SpellsParams params ▸ AMark marks.Close) w

-- body := '{' decl* block* '}'
abbrev pub SpellsBody : List DeclText → List BlockText → Span → List Token → Type 0
SpellsBody decls blocks close w = (AMark marks.OpenBrace ▸ Many SpellsDecl decls ▸ Many SpellsBlock blocks ▸ Meant (mark marks.CloseBrace) close) w

-- function := head '(' params ')' body
abbrev pub SpellsFunction : FunctionText → List Token → Type 0
SpellsFunction function w =
    (SpellsHead function.result function.name ▸ SpellsParamsBetween function.params ▸ SpellsBody function.decls function.blocks function.close) w

-- file := function*
abbrev pub SpellsFile : List FunctionText → List Token → Type 0
SpellsFile = Many SpellsFunction
