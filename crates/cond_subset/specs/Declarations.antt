-- Declarations as plain trees, and the grammar of `with` blocks.
use Rattle.std.specs.Prelude.{◌≡◌, List, map, length}
use Rattle.grammar.specs.Spelling.{Meant, Many}
use Rattle.pm_places.specs.declared.span.Span.{Span}
use Rattle.pd_text.specs.declared.symbol.Symbol.{Symbol}
use Rattle.pd_text.specs.declared.symbol.Mark.TheVariants as marks
use Rattle.pd_text.specs.declared.symbol.Word.{Word}
use Rattle.pd_text.specs.declared.symbol.Word.TheVariants as words
use Rattle.pd_text.specs.Meanings as meanings
use Rattle.cond_subset.specs.declared.tree.DeclWord.{DeclWord}
use Rattle.cond_subset.specs.declared.tree.DeclWord.TheVariants.{WideInt}
use Rattle.cond_subset.specs.declared.tree.FlaggedCall.{FlaggedCall}
use Rattle.cond_subset.specs.declared.tree.ValueText.{ValueText}
use Rattle.cond_subset.specs.declared.tree.ValueText.TheVariants as values
use Rattle.cond_subset.specs.declared.tree.DeclText.{DeclText}
use Rattle.cond_subset.specs.declared.tree.DeclText.TheVariants as decls
use Rattle.cond_subset.specs.Trees.{Expr, exprs, expr_of}
use Rattle.cond_subset.specs.Words.{decl_word, arithmetic, before_flag}
use Rattle.cond_subset.specs.Grammar.{◌▸◌, AMark, Spells, SpellsArgs}

pub data Value : Type 0 where
  plain : Expr → Value
  flagged : FlaggedCall → List Expr → Span → Value

pub data Decl : Type 0 where
  valued : DeclWord → Span → Value → Decl
  overflow : Span → Decl

-- the plain trees of a value and of a declaration of the code
abbrev pub value_of : ValueText → Value
value_of (values.Plain e) = plain (expr_of e)
value_of (values.Flagged call args flag) = flagged call (map expr_of args) flag

abbrev pub decl_of : DeclText → Decl
decl_of (decls.Valued word name value) = valued word name (value_of value)
decl_of (decls.Overflow name) = overflow name

-- this word at any place
abbrev pub AWord : Word → List Symbol → Type 0
AWord asked w = (at : Span) × Meant (meanings.word asked) at w

-- 'wi' '::' name '('
abbrev pub SpellsOpening : FlaggedCall → List Symbol → Type 0
SpellsOpening c = Meant (meanings.word words.Wide) c.wide ▸ AMark marks.DoubleColon ▸ Meant arithmetic (c.operation, c.name) ▸ AMark marks.Open

-- an expression; or a call with a flag: 'wi' '::' name '(' a ',' b ',' s ',' '&' flag ')'
abbrev pub SpellsValue : Value → List Symbol → Type 0
SpellsValue (plain e) w = Spells e w
SpellsValue (flagged call args flag) w =
    (length args ≡ before_flag call.operation)
    × (SpellsOpening call ▸ SpellsArgs (exprs args) ▸ AMark marks.Comma ▸ AMark marks.Ampersand ▸ Meant meanings.identifier flag ▸ AMark marks.Close) w

-- a flag stands in a declaration of a `wide_int` alone
abbrev pub SpellsValueOf : DeclWord → Value → List Symbol → Type 0
SpellsValueOf WideInt v w = SpellsValue v w
SpellsValueOf word (plain e) w = Spells e w
SpellsValueOf word (flagged call args flag) w = ⊥

abbrev pub SpellsDecl : Decl → List Symbol → Type 0
-- word name '=' value ';'
SpellsDecl (valued word name v) w = (Meant decl_word word ▸ Meant meanings.identifier name ▸ AMark marks.Assign ▸ SpellsValueOf word v ▸ AMark marks.Semicolon) w
-- 'wi' '::' 'overflow_type' name ';'
SpellsDecl (overflow name) w = (AWord words.Wide ▸ AMark marks.DoubleColon ▸ AWord words.OverflowType ▸ Meant meanings.identifier name ▸ AMark marks.Semicolon) w

-- the inside of a `with` block: declarations
abbrev pub SpellsBlock : List Decl → List Symbol → Type 0
SpellsBlock = Many SpellsDecl
