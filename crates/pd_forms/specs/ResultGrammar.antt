-- The grammar of results, and of C parts in their parentheses and braces.
use Rattle.std.specs.Prelude.{◌≡◌, List, [], true, ◌||◌, if◌then◌else◌, Option, Some, None}
use Rattle.grammar.specs.Spelling.{Meant}
use Rattle.pm_places.specs.declared.span.Span.{Span}
use Rattle.pd_text.specs.declared.symbol.Symbol.{Symbol}
use Rattle.pd_text.specs.declared.symbol.Symbol.TheVariants as symbols
use Rattle.pd_text.specs.declared.symbol.Mark.TheVariants as marks
use Rattle.pd_text.specs.declared.symbol.Word.TheVariants as words
use Rattle.pd_text.specs.Meanings as meanings
use Rattle.cond_subset.specs.Trees.{Expr}
use Rattle.cond_subset.specs.Declarations.{Decl, AWord, SpellsBlock}
use Rattle.cond_subset.specs.Grammar.{◌▸◌, AMark, Spells}
use Rattle.cond_subset.specs.Syntax.{SpellsBrace}
use Rattle.pd_forms.specs.Grammar.{SpellsHeadAfter}
use Rattle.pd_forms.specs.LeafReaders.{leaf_name}
use Rattle.pd_forms.specs.Results.{Leaf, capture, brace, operation, Leaves, nil, cons, Result, leaf, when, choose, switch, bound, Results, none, more}
use Rattle.pd_forms.specs.ResultReaders.{is_case}

-- a capture with one `@` that isn't joined to what stands before
abbrev pub lone : Symbol → Option Span
lone (symbols.Capture c) = if c.joined || c.by_value then None else Some c.at
lone symbol = None

-- '(' cexpr ')'
abbrev pub SpellsCondition : Expr → List Symbol → Type 0
SpellsCondition c = AMark marks.Open ▸ Spells c ▸ AMark marks.Close

-- '{' cdecl* '}'
abbrev pub SpellsDeclarations : List Decl → List Symbol → Type 0
SpellsDeclarations ds = AMark marks.OpenBrace ▸ SpellsBlock ds ▸ AMark marks.CloseBrace

abbrev mutual
  pub SpellsLeaf : Leaf → List Symbol → Type 0
  SpellsLeaf (capture at) w = Meant lone at w
  -- '{' cexpr ';'? '}'
  SpellsLeaf (brace at e) w = (Meant (meanings.mark marks.OpenBrace) at ▸ SpellsBrace e ▸ AMark marks.CloseBrace) w
  -- '(' ident '!'? (':' ident)? leaf* ')'
  SpellsLeaf (operation at head ls) w =
      (Meant (meanings.mark marks.Open) at ▸ Meant leaf_name head.name ▸ SpellsHeadAfter marks.Exclamation head ▸ SpellsLeaves ls ▸ AMark marks.Close) w

  -- leaf*
  pub SpellsLeaves : Leaves → List Symbol → Type 0
  SpellsLeaves nil w = w ≡ []
  SpellsLeaves (cons l ls) w = (SpellsLeaf l ▸ SpellsLeaves ls) w

-- each item before others is a case
abbrev pub AreCases : Result → Results → Type 0
AreCases r none = Unit {0}
AreCases r (more s rs) = (is_case r ≡ true) × AreCases s rs

-- the items of a `switch`: a case, and others; each but the last is a case
abbrev pub IsSwitch : Results → Type 0
IsSwitch none = ⊥
IsSwitch (more r rs) = (is_case r ≡ true) × AreCases r rs

abbrev mutual
  pub SpellsResult : Result → List Symbol → Type 0
  SpellsResult (leaf l) w = SpellsLeaf l w
  -- '(' 'if' '(' cexpr ')' result ')'
  SpellsResult (when c a) w = (AMark marks.Open ▸ AWord words.If ▸ SpellsCondition c ▸ SpellsResult a ▸ AMark marks.Close) w
  -- '(' 'if' '(' cexpr ')' result result ')'
  SpellsResult (choose c a b) w = (AMark marks.Open ▸ AWord words.If ▸ SpellsCondition c ▸ SpellsResult a ▸ SpellsResult b ▸ AMark marks.Close) w
  -- '(' 'switch' result result* ')'
  SpellsResult (switch rs) w = IsSwitch rs × (AMark marks.Open ▸ AWord words.Switch ▸ SpellsResults rs ▸ AMark marks.Close) w
  -- '(' 'with' '{' cdecl* '}' result ')'
  SpellsResult (bound ds a) w = (AMark marks.Open ▸ AWord words.With ▸ SpellsDeclarations ds ▸ SpellsResult a ▸ AMark marks.Close) w

  pub SpellsResults : Results → List Symbol → Type 0
  SpellsResults none w = w ≡ []
  SpellsResults (more r rs) w = (SpellsResult r ▸ SpellsResults rs) w
