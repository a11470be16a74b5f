-- Readers of phis and statements on lists of tokens, between code and grammar: the contracts above rest on the grammar and
-- the faults alone.
use Rattle.std.specs.Prelude.{List, [], ◌∷◌, Ok}
use Rattle.grammar.specs.Reading.{Answer, ◌>>=◌, more_at}
use Rattle.pm_places.specs.declared.span.Span.{Span}
use Rattle.gim_text.specs.declared.token.Token.{Token}
use Rattle.gim_text.specs.declared.token.Token.TheVariants as tokens
use Rattle.gim_text.specs.declared.token.Keyword.TheVariants as keywords
use Rattle.gim_text.specs.declared.token.Mark.TheVariants as marks
use Rattle.gim_text.specs.declared.tree.ArgText.{ArgText}
use Rattle.gim_text.specs.declared.tree.ItemText.{ItemText}
use Rattle.gim_text.specs.declared.tree.ItemText.TheVariants as items
use Rattle.gim_words.specs.TokenReaders.{mark_at, name_at, block_word_at, is_comma}
use Rattle.gim_statements.specs.OperandReaders.{operand_at}
use Rattle.gim_statements.specs.RightReaders.{right_at}

abbrev pub arg_at : List Token → Answer Token (Unit {0}) ArgText
arg_at input = do
  from ← block_word_at input
  colon ← mark_at marks.Colon from.1
  a ← operand_at colon.1
  Ok (record { from = from.0; operand = a.0 }, a.1)

-- a comma and an argument
abbrev pub further_arg_at : List Token → Answer Token (Unit {0}) ArgText
further_arg_at input = mark_at marks.Comma input >>= λ comma. arg_at comma.1

abbrev pub args_at : List Token → Answer Token (Unit {0}) (List ArgText)
args_at input = do
  x ← arg_at input
  more_at is_comma further_arg_at (x.0 ∷ []) x.1

-- what stands after `name = __PHI`
abbrev pub phi_at : Span → List Token → Answer Token (Unit {0}) ItemText
phi_at name input = do
  left ← mark_at marks.Open input
  args ← args_at left.1
  right ← mark_at marks.Close args.1
  semicolon ← mark_at marks.Semicolon right.1
  Ok (items.Phi name args.0, semicolon.1)

-- what stands after the `name =` of a statement
abbrev pub statement_at : Span → List Token → Answer Token (Unit {0}) ItemText
statement_at name input = do
  right ← right_at input
  semicolon ← mark_at marks.Semicolon right.1
  Ok (items.Stmt name right.0, semicolon.1)

-- what stands after `name =`
abbrev pub assigned_at : Span → List Token → Answer Token (Unit {0}) ItemText
assigned_at name (tokens.Keyword keywords.Phi at ∷ rest) = phi_at name rest
assigned_at name input = statement_at name input

abbrev pub item_at : List Token → Answer Token (Unit {0}) ItemText
item_at input = do
  name ← name_at input
  assign ← mark_at marks.Assign name.1
  assigned_at name.0 assign.1
