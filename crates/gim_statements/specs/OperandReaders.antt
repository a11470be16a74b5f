-- Readers of operands on lists of tokens, between code and grammar: the contracts above rest on the grammar and the faults
-- alone.
use Rattle.std.specs.Prelude.{Bool, true, false, List, [], ◌∷◌, Option, Ok, Err}
use Rattle.grammar.specs.Reading.{Answer, ◌>>=◌, meant_at}
use Rattle.pm_wide.specs.Types.{Ty}
use Rattle.gim_text.specs.Meanings.{span_of}
use Rattle.pm_places.specs.declared.span.Span.{Span}
use Rattle.gim_text.specs.declared.token.Token.{Token}
use Rattle.gim_text.specs.declared.token.Token.TheVariants as tokens
use Rattle.gim_text.specs.declared.token.Keyword.TheVariants as keywords
use Rattle.gim_text.specs.declared.token.Mark.TheVariants as marks
use Rattle.gim_text.specs.declared.tree.LiteralType.{LiteralType}
use Rattle.gim_text.specs.declared.tree.LiteralType.TheVariants.{Written}
use Rattle.gim_text.specs.declared.tree.OperandText.{OperandText}
use Rattle.gim_text.specs.declared.tree.OperandText.TheVariants as operands
use Rattle.gim_statements.specs.declared.operand.Constant.{Constant}
use Rattle.gim_words.specs.TypeReaders.{type_at}
use Rattle.gim_words.specs.Tokens.{plain_number}
use Rattle.gim_words.specs.TokenReaders.{mark_at, keyword_at}
use Rattle.gim_statements.specs.Words.{literal_number}

abbrev pub literal : Span → Constant → OperandText
literal start c = operands.Literal (record { start = start; ty = c.ty; negative = c.negative; number = c.number })

-- a number with this meaning, or `-` and such a number: whether it is negative, and what it means
abbrev pub signed_at : {A : Type 0} → (Token → Option A) → List Token → Answer Token (Unit {0}) (Bool × A)
signed_at meaning (tokens.Mark marks.Minus at ∷ rest) = meant_at meaning tt rest >>= λ x. Ok ((true, x.0), x.1)
signed_at meaning input = meant_at meaning tt input >>= λ x. Ok ((false, x.0), x.1)

abbrev pub bare : Bool × (LiteralType × Span) → Constant
bare x = record { ty = x.1.0; negative = x.0; number = x.1.1 }

abbrev pub written : Ty → Bool × Span → Constant
written t x = record { ty = Written t; negative = x.0; number = x.1 }

abbrev pub signed_number_at : List Token → Answer Token (Unit {0}) Constant
signed_number_at input = signed_at literal_number input >>= λ x. Ok (bare x.0, x.1)

-- a number of a type that was written before it
abbrev pub written_number_at : Ty → List Token → Answer Token (Unit {0}) Constant
written_number_at t input = signed_at plain_number input >>= λ x. Ok (written t x.0, x.1)

-- what stands after `_Literal`
abbrev pub written_at : List Token → Answer Token (Unit {0}) Constant
written_at input = do
  left ← mark_at marks.Open input
  t ← type_at left.1
  right ← mark_at marks.Close t.1
  written_number_at t.0 right.1

abbrev pub constant_at : List Token → Answer Token (Unit {0}) Constant
constant_at (tokens.Keyword keywords.Literal at ∷ rest) = written_at rest
constant_at input = signed_number_at input

abbrev pub literal_at : List Token → Answer Token (Unit {0}) OperandText
literal_at [] = Err (tt, [])
literal_at (t ∷ rest) = constant_at (t ∷ rest) >>= λ c. Ok (literal (span_of t) c.0, c.1)

-- what stands after a name: `(D)` or nothing
abbrev pub named_at : Span → List Token → Answer Token (Unit {0}) OperandText
named_at name (tokens.Mark marks.Open at ∷ rest) = do
  default ← keyword_at keywords.Default rest
  right ← mark_at marks.Close default.1
  Ok (operands.Default name, right.1)
named_at name input = Ok (operands.Name name, input)

abbrev pub operand_at : List Token → Answer Token (Unit {0}) OperandText
operand_at (tokens.Identifier name ∷ rest) = named_at name rest
operand_at (tokens.Ssa name ∷ rest) = named_at name rest
operand_at input = literal_at input
