-- C parts between their parentheses or braces are read exactly.
use Rattle.std.proofs.Common.{◌≡◌, List, [], ◌∷◌, Some, Ok, refl, subst, inl, inr}
use Rattle.grammar.specs.Spelling.{Spelling, Meant, Then, Mapped}
use Rattle.grammar.specs.Reading.{◌>>=◌}
use Rattle.grammar.proofs.Sequence.{Never}
use Rattle.grammar.proofs.EveryInput.{Reads, one_token, seen_by, after_token, apart_before, in_words}
use Rattle.pm_ops.specs.declared.fault.PatternKind.TheVariants.{Syntax, CSyntax}
use Rattle.pm_places.specs.declared.span.Span.{Span}
use Rattle.pd_text.specs.declared.symbol.Symbol.{Symbol}
use Rattle.pd_text.specs.declared.symbol.Symbol.TheVariants as symbols
use Rattle.pd_text.specs.declared.symbol.Mark.{Mark}
use Rattle.pd_text.specs.declared.symbol.Mark.TheVariants as marks
use Rattle.pd_text.specs.Meanings as meanings
use Rattle.cond_subset.specs.GoesOn.{GoesOn}
use Rattle.cond_subset.specs.Trees.{Expr}
use Rattle.cond_subset.specs.Declarations.{Decl, SpellsBlock}
use Rattle.cond_subset.specs.DeclarationReaders.{IsInBlock, expression_at, block_at}
use Rattle.cond_subset.specs.Grammar.{Spells}
use Rattle.cond_subset.specs.Syntax.{SpellsBrace}
use Rattle.cond_subset.specs.WholeReaders.{brace_at}
use Rattle.cond_subset.proofs.SymbolsExact.{some_mark}
use Rattle.cond_subset.proofs.Ranks.{close_apart}
use Rattle.cond_subset.proofs.DeclarationsExact.{expression_reads, block_reads}
use Rattle.cond_subset.proofs.BracesExact.{GoesOnBrace, brace_reads}
use Rattle.pd_forms.specs.SymbolReaders.{Read, closing_at}
use Rattle.pd_forms.specs.PartReaders.{condition_at, declarations_at, braced_at}
use Rattle.pd_forms.specs.ResultGrammar.{SpellsCondition, SpellsDeclarations}

-- a part, and the mark that closes it
module _ {A : Type 0} (N : Spelling Symbol A) (more : Symbol → Type 0) (close : Mark) (apart : (t : Symbol) (at : Span) → meanings.mark close t ≡ Some at → ¬ more t)
    (read : List Symbol → Read A) (reads : Reads N more read) where
  abbrev pub Closed : Spelling Symbol A
  Closed = Then N (λ x. Mapped (λ at. x) (Meant (meanings.mark close)))

  no_close : (x y : A) → Mapped (λ at. x) (Meant (meanings.mark close)) y [] → ⊥
  no_close x y (at, (t, is, one), same) = cc

  close_first : (x y : A) (t : Symbol) (v : List Symbol) → Mapped (λ at. x) (Meant (meanings.mark close)) y (t ∷ v) → ¬ more t
  close_first x y t v (at, (s, is, one), same) = let head : s ≡ t = cc in subst (λ k. ¬ more k) head (apart s at is)

  pub closed_reads : Reads Closed Never (λ input. read input >>= λ x. closing_at close x.1 >>= λ right. Ok (x.0, right.1))
  closed_reads =
      apart_before N (λ x. Mapped (λ at. x) (Meant (meanings.mark close))) more Never no_close close_first read (λ x. closing_at close x.1 >>= λ right. Ok (x.0, right.1)) reads
      (λ x. seen_by (λ at. x) (Meant (meanings.mark close)) Never (closing_at close) (one_token (meanings.mark close) CSyntax Never (some_mark close)))

no_brace : (t : Symbol) (at : Span) → meanings.mark marks.CloseBrace t ≡ Some at → ¬ IsInBlock t
no_brace (symbols.Mark marks.CloseBrace p) at e = λ is. cc
no_brace t at e = absurd (cc)

pub brace_apart : (t : Symbol) (at : Span) → meanings.mark marks.CloseBrace t ≡ Some at → ¬ GoesOnBrace t
brace_apart (symbols.Mark marks.CloseBrace p) at e (inl (inl is)) = is
brace_apart (symbols.Mark marks.CloseBrace p) at e (inl (inr (inl (op, is, low)))) = cc
brace_apart (symbols.Mark marks.CloseBrace p) at e (inl (inr (inr (is, low)))) = is
brace_apart (symbols.Mark marks.CloseBrace p) at e (inr is) = is
brace_apart t at e goes_on = absurd (cc)

-- what stands in braces after the `{`
abbrev pub InBraces : Spelling Symbol Expr
InBraces = Closed SpellsBrace GoesOnBrace marks.CloseBrace brace_apart brace_at brace_reads

pub braced_reads : Reads InBraces Never braced_at
braced_reads = closed_reads SpellsBrace GoesOnBrace marks.CloseBrace brace_apart brace_at brace_reads

-- a condition

InParentheses : Spelling Symbol Expr
InParentheses = Closed Spells (GoesOn 10) marks.Close (close_apart 10) expression_at expression_reads

pub condition_reads : Reads SpellsCondition Never condition_at
unfolding InParentheses
condition_reads =
    in_words (Then (Meant (meanings.mark marks.Open)) (λ left. InParentheses)) SpellsCondition Never condition_at to back
    (after_token (meanings.mark marks.Open) Syntax (some_mark marks.Open) (λ left. InParentheses) Never (λ left. expression_at left.1 >>= λ e. closing_at marks.Close e.1 >>= λ right. Ok (e.0, right.1))
    (λ left. closed_reads Spells (GoesOn 10) marks.Close (close_apart 10) expression_at expression_reads))
  where
    to : (c : Expr) (w : List Symbol) → Then (Meant (meanings.mark marks.Open)) (λ left. InParentheses) c w → SpellsCondition c w
    to c w (left, u, v, open_mark, (e, u₁, v₁, spelled, (right, close, same), cut₁), cut) =
        subst (λ d. SpellsCondition d w) same (u, v, (left, open_mark), (u₁, v₁, spelled, (right, close), cut₁), cut)

    back : (c : Expr) (w : List Symbol) → SpellsCondition c w → Then (Meant (meanings.mark marks.Open)) (λ left. InParentheses) c w
    back c w (u, v, (left, open_mark), (u₁, v₁, spelled, (right, close), cut₁), cut) = (left, u, v, open_mark, (c, u₁, v₁, spelled, (right, close, refl), cut₁), cut)

-- declarations

Declared : Spelling Symbol (List Decl)
Declared = Closed SpellsBlock IsInBlock marks.CloseBrace no_brace block_at block_reads

pub declarations_reads : Reads SpellsDeclarations Never declarations_at
unfolding Declared
declarations_reads =
    in_words (Then (Meant (meanings.mark marks.OpenBrace)) (λ left. Declared)) SpellsDeclarations Never declarations_at to back
    (after_token (meanings.mark marks.OpenBrace) Syntax (some_mark marks.OpenBrace) (λ left. Declared) Never (λ left. block_at left.1 >>= λ ds. closing_at marks.CloseBrace ds.1 >>= λ right. Ok (ds.0, right.1))
    (λ left. closed_reads SpellsBlock IsInBlock marks.CloseBrace no_brace block_at block_reads))
  where
    to : (ds : List Decl) (w : List Symbol) → Then (Meant (meanings.mark marks.OpenBrace)) (λ left. Declared) ds w → SpellsDeclarations ds w
    to ds w (left, u, v, open_mark, (e, u₁, v₁, spelled, (right, close, same), cut₁), cut) =
        subst (λ d. SpellsDeclarations d w) same (u, v, (left, open_mark), (u₁, v₁, spelled, (right, close), cut₁), cut)

    back : (ds : List Decl) (w : List Symbol) → SpellsDeclarations ds w → Then (Meant (meanings.mark marks.OpenBrace)) (λ left. Declared) ds w
    back ds w (u, v, (left, open_mark), (u₁, v₁, spelled, (right, close), cut₁), cut) = (left, u, v, open_mark, (ds, u₁, v₁, spelled, (right, close, refl), cut₁), cut)
