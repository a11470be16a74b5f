-- Tails of the cases of predicates: plain trees, and which symbols spell them.
use Rattle.std.specs.Prelude.{◌≡◌, List, [], map}
use Rattle.pd_text.specs.declared.symbol.Symbol.{Symbol}
use Rattle.pd_text.specs.declared.symbol.Symbol.TheVariants as symbols
use Rattle.pd_text.specs.declared.symbol.Mark.TheVariants as marks
use Rattle.pd_text.specs.declared.symbol.Word.TheVariants as words
use Rattle.cond_subset.specs.Trees.{Expr, expr_of}
use Rattle.cond_subset.specs.Declarations.{Decl, decl_of, AWord}
use Rattle.cond_subset.specs.Grammar.{◌▸◌, AMark}
use Rattle.pd_forms.specs.ResultGrammar.{SpellsCondition, SpellsDeclarations}
use Rattle.pd_forms.specs.declared.tree.TailText.{TailText, TailText-F, fold-TailText}
use Rattle.pd_forms.specs.declared.tree.TailText.TheOpen as tail_texts

pub data Tail : Type 0 where
  empty : Tail
  when : Expr → Tail → Tail
  bound : List Decl → Tail → Tail

abbrev pub tail_step : TailText-F Tail → Tail
tail_step tail_texts.Empty = empty
tail_step (tail_texts.If c t) = when (expr_of c) t
tail_step (tail_texts.With ds t) = bound (map decl_of ds) t

-- the plain tree of a tail of the code
abbrev pub tail_of : TailText → Tail
tail_of = fold-TailText Tail tail_step

abbrev pub SpellsTail : Tail → List Symbol → Type 0
SpellsTail empty w = w ≡ []
-- '(' 'if' '(' cexpr ')' tail ')'
SpellsTail (when c t) w = (AMark marks.Open ▸ AWord words.If ▸ SpellsCondition c ▸ SpellsTail t ▸ AMark marks.Close) w
-- '(' 'with' '{' cdecl* '}' tail ')'
SpellsTail (bound ds t) w = (AMark marks.Open ▸ AWord words.With ▸ SpellsDeclarations ds ▸ SpellsTail t ▸ AMark marks.Close) w

-- what can go on an empty tail
abbrev pub IsOpen : Symbol → Type 0
IsOpen (symbols.Mark marks.Open at) = Unit {0}
IsOpen t = ⊥
