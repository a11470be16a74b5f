-- Readers of C parts between their parentheses or braces, on lists of symbols.
use Rattle.std.specs.Prelude.{List, Ok}
use Rattle.grammar.specs.Reading.{◌>>=◌}
use Rattle.pd_text.specs.declared.symbol.Symbol.{Symbol}
use Rattle.pd_text.specs.declared.symbol.Mark.TheVariants as marks
use Rattle.cond_subset.specs.Trees.{Expr}
use Rattle.cond_subset.specs.Declarations.{Decl}
use Rattle.cond_subset.specs.DeclarationReaders.{expression_at, block_at}
use Rattle.cond_subset.specs.WholeReaders.{brace_at}
use Rattle.pd_forms.specs.SymbolReaders.{Read, mark_at, closing_at}

abbrev pub condition_at : List Symbol → Read Expr
condition_at input = do
  left ← mark_at marks.Open input
  e ← expression_at left.1
  right ← closing_at marks.Close e.1
  Ok (e.0, right.1)

abbrev pub declarations_at : List Symbol → Read (List Decl)
declarations_at input = do
  left ← mark_at marks.OpenBrace input
  ds ← block_at left.1
  right ← closing_at marks.CloseBrace ds.1
  Ok (ds.0, right.1)

-- an operand in braces after its `{`
abbrev pub braced_at : List Symbol → Read Expr
braced_at input = do
  e ← brace_at input
  right ← closing_at marks.CloseBrace e.1
  Ok (e.0, right.1)
