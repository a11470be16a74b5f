-- Patterns and results as plain trees.
use Rattle.std.specs.Prelude.{List, [], ◌∷◌, Option}
use Rattle.pm_places.specs.declared.span.Span.{Span}
use Rattle.pd_text.specs.declared.symbol.Capture.{Capture}
use Rattle.pd_forms.specs.declared.tree.HeadText.{HeadText}
use Rattle.pd_forms.specs.declared.tree.PatternText.{PatternText, PatternText-F, fold-PatternText}
use Rattle.pd_forms.specs.declared.tree.PatternText.TheOpen as patterns

mutual
  pub data Pattern : Type 0 where
    capture : Capture → Pattern
    predicate : Span → Option Capture → Pattern
    operation : Span → HeadText → Option Capture → Patterns → Pattern

  pub data Patterns : Type 0 where
    nil : Patterns
    cons : Pattern → Patterns → Patterns

-- the patterns of a list
abbrev pub operands : List Pattern → Patterns
operands [] = nil
operands (p ∷ ps) = cons p (operands ps)

-- one layer, with plain trees in place of the parts
abbrev pub pattern_step : PatternText-F Pattern → Pattern
pattern_step (patterns.Capture c) = capture c
pattern_step (patterns.Predicate at c) = predicate at c
pattern_step (patterns.Operation at head c ps) = operation at head c (operands ps)

-- the plain tree of a pattern of the code
abbrev pub pattern_of : PatternText → Pattern
pattern_of = fold-PatternText Pattern pattern_step
