-- The grammar of patterns: which symbols spell which tree, a case for each form.
use Rattle.std.specs.Prelude.{◌≡◌, List, [], if◌then◌else◌, Option, Some, None}
use Rattle.grammar.specs.Spelling.{Meant}
use Rattle.pm_places.specs.declared.span.Span.{Span}
use Rattle.pd_text.specs.declared.symbol.Symbol.{Symbol}
use Rattle.pd_text.specs.declared.symbol.Symbol.TheVariants as symbols
use Rattle.pd_text.specs.declared.symbol.Capture.{Capture}
use Rattle.pd_text.specs.declared.symbol.Mark.{Mark}
use Rattle.pd_text.specs.declared.symbol.Mark.TheVariants as marks
use Rattle.pd_text.specs.Meanings as meanings
use Rattle.cond_subset.specs.Grammar.{◌▸◌, AMark}
use Rattle.pd_forms.specs.declared.tree.HeadText.{HeadText}
use Rattle.pd_forms.specs.SymbolReaders.{joined}
use Rattle.pd_forms.specs.Trees.{Pattern, capture, predicate, operation, Patterns, nil, cons}

-- a capture that isn't joined to what stands before
abbrev pub unjoined : Symbol → Option Capture
unjoined (symbols.Capture c) = if c.joined then None else Some c
unjoined symbol = None

-- one symbol with this meaning, or nothing
abbrev pub SpellsMaybe : {A : Type 0} → (Symbol → Option A) → Option A → List Symbol → Type 0
SpellsMaybe meaning None w = w ≡ []
SpellsMaybe meaning (Some x) w = Meant meaning x w

-- (':' ident)?
abbrev pub SpellsLabel : Option Span → List Symbol → Type 0
SpellsLabel None w = w ≡ []
SpellsLabel (Some name) w = (AMark marks.Colon ▸ Meant meanings.identifier name) w

-- what stands after the name of an operation: the mark if it is there, and (':' ident)?
abbrev pub SpellsHeadAfter : Mark → HeadText → List Symbol → Type 0
SpellsHeadAfter asked head = SpellsMaybe (meanings.mark asked) head.marked ▸ SpellsLabel head.label

abbrev mutual
  pub SpellsPattern : Pattern → List Symbol → Type 0
  SpellsPattern (capture c) w = Meant unjoined c w
  -- ident joined?
  SpellsPattern (predicate at c) w = (Meant meanings.identifier at ▸ SpellsMaybe joined c) w
  -- '(' ident '?'? (':' ident)? joined? pattern* ')'
  SpellsPattern (operation at head c ps) w =
      (Meant (meanings.mark marks.Open) at ▸ Meant meanings.identifier head.name ▸ SpellsHeadAfter marks.Question head
      ▸ SpellsMaybe joined c ▸ SpellsPatterns ps ▸ AMark marks.Close) w

  -- pattern*
  pub SpellsPatterns : Patterns → List Symbol → Type 0
  SpellsPatterns nil w = w ≡ []
  SpellsPatterns (cons p ps) w = (SpellsPattern p ▸ SpellsPatterns ps) w

-- what can go on a pattern: a joined capture goes on a name
abbrev pub IsJoined : Symbol → Type 0
IsJoined t = (c : Capture) × (joined t ≡ Some c)
