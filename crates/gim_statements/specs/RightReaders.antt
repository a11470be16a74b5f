-- Readers of right sides on lists of tokens, between code and grammar: the contracts above rest on the grammar and the
-- faults alone.
use Rattle.std.specs.Prelude.{List, [], ◌∷◌, Option, Some, None, Ok, Err}
use Rattle.grammar.specs.Reading.{Answer, ◌>>=◌}
use Rattle.pm_ops.specs.declared.code.Code.{Code}
use Rattle.pm_ops.specs.declared.code.Code.TheVariants as codes
use Rattle.gim_text.specs.Meanings.{span_of}
use Rattle.gim_text.specs.declared.token.Token.{Token}
use Rattle.gim_text.specs.declared.token.Token.TheVariants as tokens
use Rattle.gim_text.specs.declared.token.Keyword.TheVariants as keywords
use Rattle.gim_text.specs.declared.token.Mark.TheVariants as marks
use Rattle.gim_text.specs.declared.tree.OperandText.{OperandText}
use Rattle.gim_text.specs.declared.tree.RightText.{RightText}
use Rattle.gim_text.specs.declared.tree.RightForm.{RightForm}
use Rattle.gim_text.specs.declared.tree.RightForm.TheVariants as forms
use Rattle.gim_words.specs.TypeReaders.{type_at}
use Rattle.gim_words.specs.TokenReaders.{mark_at}
use Rattle.gim_statements.specs.Words.{infix_code}
use Rattle.gim_statements.specs.OperandReaders.{operand_at}

-- what stands after `-`, `~`, `__ABS` or `__ABSU`
abbrev pub prefixed_at : Code → List Token → Answer Token (Unit {0}) RightForm
prefixed_at op input = operand_at input >>= λ a. Ok (forms.Unary op a.0, a.1)

-- what stands after the `(` of a cast
abbrev pub cast_at : List Token → Answer Token (Unit {0}) RightForm
cast_at input = do
  t ← type_at input
  right ← mark_at marks.Close t.1
  a ← operand_at right.1
  Ok (forms.Cast t.0 a.0, a.1)

-- what stands after `__MIN` or `__MAX`
abbrev pub call_at : Code → List Token → Answer Token (Unit {0}) RightForm
call_at op input = do
  left ← mark_at marks.Open input
  a ← operand_at left.1
  comma ← mark_at marks.Comma a.1
  b ← operand_at comma.1
  right ← mark_at marks.Close b.1
  Ok (forms.Binary op a.0 b.0, right.1)

-- what stands after `c ?`
abbrev pub choice_at : OperandText → List Token → Answer Token (Unit {0}) RightForm
choice_at c input = do
  a ← operand_at input
  colon ← mark_at marks.Colon a.1
  b ← operand_at colon.1
  Ok (forms.Choice c a.0 b.0, b.1)

-- an operator and the second operand, where there is an operator
abbrev pub operated : OperandText → List Token → List Token → Option Code → Answer Token (Unit {0}) RightForm
operated a input rest None = Ok (forms.Copy a, input)
operated a input rest (Some op) = operand_at rest >>= λ b. Ok (forms.Binary op a b.0, b.1)

-- what stands after a first operand
abbrev pub continued_at : OperandText → List Token → Answer Token (Unit {0}) RightForm
continued_at a [] = Ok (forms.Copy a, [])
continued_at a (tokens.Mark marks.Question at ∷ rest) = choice_at a rest
continued_at a (t ∷ rest) = operated a (t ∷ rest) rest (infix_code t)

-- a form that begins with an operand
abbrev pub infix_at : List Token → Answer Token (Unit {0}) RightForm
infix_at input = operand_at input >>= λ a. continued_at a.0 a.1

abbrev pub form_at : List Token → Answer Token (Unit {0}) RightForm
form_at (tokens.Mark marks.Minus at ∷ tokens.Number kind number ∷ rest) = infix_at (tokens.Mark marks.Minus at ∷ tokens.Number kind number ∷ rest)
form_at (tokens.Mark marks.Minus at ∷ rest) = prefixed_at codes.Negate rest
form_at (tokens.Mark marks.Tilde at ∷ rest) = prefixed_at codes.BitNot rest
form_at (tokens.Mark marks.Open at ∷ rest) = cast_at rest
form_at (tokens.Keyword keywords.Abs at ∷ rest) = prefixed_at codes.Abs rest
form_at (tokens.Keyword keywords.Absu at ∷ rest) = prefixed_at codes.Absu rest
form_at (tokens.Keyword keywords.Min at ∷ rest) = call_at codes.Min rest
form_at (tokens.Keyword keywords.Max at ∷ rest) = call_at codes.Max rest
form_at input = infix_at input

abbrev pub right_at : List Token → Answer Token (Unit {0}) RightText
right_at [] = Err (tt, [])
right_at (t ∷ rest) = form_at (t ∷ rest) >>= λ form. Ok (record { start = span_of t; form = form.0 }, form.1)
