-- The grammar of C parts: which symbols spell which tree, a case for each form.
use Rattle.std.specs.Prelude.{◌≡◌, ℕ, ◌<◌, ◌≤◌, List, [], ◌++◌, Option, Some, None}
use Rattle.grammar.specs.Spelling.{Meant}
use Rattle.pm_places.specs.declared.span.Span.{Span}
use Rattle.pd_text.specs.declared.symbol.Symbol.{Symbol}
use Rattle.pd_text.specs.declared.symbol.Mark.{Mark}
use Rattle.pd_text.specs.declared.symbol.Mark.TheVariants as marks
use Rattle.pd_text.specs.declared.symbol.Word.TheVariants as words
use Rattle.pd_text.specs.Meanings as meanings
use Rattle.cond_subset.specs.declared.tree.Callee.{Callee}
use Rattle.cond_subset.specs.Operators.{binary_operator, unary_operator, rank_of}
use Rattle.cond_subset.specs.Trees.{Expr, number, capture, named, parens, unary, binary, choose, call, Exprs, nil, cons}

-- one after the other
infixr 20 ◌▸◌
abbrev pub ◌▸◌ : (List Symbol → Type 0) → (List Symbol → Type 0) → List Symbol → Type 0
(first ▸ second) w = (u : List Symbol) × (v : List Symbol) × first u × second v × (w ≡ u ++ v)

-- this mark at any place
abbrev pub AMark : Mark → List Symbol → Type 0
AMark asked w = (at : Span) × Meant (meanings.mark asked) at w

-- how loosely the outermost part of an expression binds
abbrev pub rank : Expr → ℕ
rank (binary op at a b) = rank_of op
rank (choose at c a b) = 10
rank e = 0

-- name, or 'wi' '::' name
abbrev pub SpellsWide : Option Span → List Symbol → Type 0
SpellsWide None w = w ≡ []
SpellsWide (Some at) w = (Meant (meanings.word words.Wide) at ▸ AMark marks.DoubleColon) w

abbrev pub SpellsCallee : Callee → List Symbol → Type 0
SpellsCallee callee = SpellsWide callee.wide ▸ Meant meanings.identifier callee.name

abbrev mutual
  -- An expression. Operators group to the left, `?:` to the right: what stands left of an operator binds as tight as it
  -- or tighter, what stands right of it tighter.
  pub Spells : Expr → List Symbol → Type 0
  Spells (number at) w = Meant meanings.number at w
  Spells (capture at) w = Meant meanings.plain_capture at w
  Spells (named at) w = Meant meanings.identifier at w
  -- '(' a ')'
  Spells (parens at a) w = (Meant (meanings.mark marks.Open) at ▸ Spells a ▸ AMark marks.Close) w
  -- op a
  Spells (unary op at a) w = (rank a ≤ 0) × (Meant unary_operator (op, at) ▸ Spells a) w
  -- a op b
  Spells (binary op at a b) w = (rank a ≤ rank_of op) × (rank b < rank_of op) × (Spells a ▸ Meant binary_operator (op, at) ▸ Spells b) w
  -- c '?' a ':' b
  Spells (choose at c a b) w = (rank c < 10) × (Spells c ▸ Meant (meanings.mark marks.Question) at ▸ Spells a ▸ AMark marks.Colon ▸ Spells b) w
  -- callee '(' args ')'
  Spells (call callee args) w = (SpellsCallee callee ▸ AMark marks.Open ▸ SpellsArgs args ▸ AMark marks.Close) w

  -- nothing, or a (',' b)*
  pub SpellsArgs : Exprs → List Symbol → Type 0
  SpellsArgs nil w = w ≡ []
  SpellsArgs (cons e es) w = (Spells e ▸ SpellsFurther es) w

  -- (',' b)*
  pub SpellsFurther : Exprs → List Symbol → Type 0
  SpellsFurther nil w = w ≡ []
  SpellsFurther (cons e es) w = ((AMark marks.Comma ▸ Spells e) ▸ SpellsFurther es) w

-- an expression that binds at least as tight as this rank
abbrev pub Within : ℕ → Expr → List Symbol → Type 0
Within r e w = (rank e ≤ r) × Spells e w
