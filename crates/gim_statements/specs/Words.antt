-- Which token stands for which operation, and what a number says of its type.
use Rattle.std.specs.Prelude.{Option, Some, None}
use Rattle.pm_ops.specs.declared.code.Code.{Code}
use Rattle.pm_ops.specs.declared.code.Code.TheVariants as codes
use Rattle.pm_places.specs.declared.span.Span.{Span}
use Rattle.gim_text.specs.declared.token.Token.{Token}
use Rattle.gim_text.specs.declared.token.Token.TheVariants as tokens
use Rattle.gim_text.specs.declared.token.Keyword.TheVariants as keywords
use Rattle.gim_text.specs.declared.token.Mark.TheVariants as marks
use Rattle.gim_text.specs.declared.token.NumberKind.TheVariants as kinds
use Rattle.gim_text.specs.declared.tree.LiteralType.{LiteralType}
use Rattle.gim_text.specs.declared.tree.LiteralType.TheVariants.{Plain, Unsigned, Long, UnsignedLong}

-- what stands before one operand: unop := '-' | '~' | '__ABS' | '__ABSU'
abbrev pub prefix_code : Token → Option Code
prefix_code (tokens.Mark marks.Minus at) = Some codes.Negate
prefix_code (tokens.Mark marks.Tilde at) = Some codes.BitNot
prefix_code (tokens.Keyword keywords.Abs at) = Some codes.Abs
prefix_code (tokens.Keyword keywords.Absu at) = Some codes.Absu
prefix_code token = None

-- what compares two operands: cmp := '==' | '!=' | '<' | '<=' | '>' | '>='
abbrev pub comparison_code : Token → Option Code
comparison_code (tokens.Mark marks.Equal at) = Some codes.Eq
comparison_code (tokens.Mark marks.NotEqual at) = Some codes.Ne
comparison_code (tokens.Mark marks.Less at) = Some codes.Lt
comparison_code (tokens.Mark marks.LessEqual at) = Some codes.Le
comparison_code (tokens.Mark marks.Greater at) = Some codes.Gt
comparison_code (tokens.Mark marks.GreaterEqual at) = Some codes.Ge
comparison_code token = None

-- what stands between two operands: binop := '+' | '-' | '*' | '/' | '%' | '&' | '|' | '^' | '<<' | '>>' | cmp
abbrev pub infix_code : Token → Option Code
infix_code (tokens.Mark marks.Plus at) = Some codes.Plus
infix_code (tokens.Mark marks.Minus at) = Some codes.Minus
infix_code (tokens.Mark marks.Star at) = Some codes.Mult
infix_code (tokens.Mark marks.Slash at) = Some codes.TruncDiv
infix_code (tokens.Mark marks.Percent at) = Some codes.TruncMod
infix_code (tokens.Mark marks.Ampersand at) = Some codes.BitAnd
infix_code (tokens.Mark marks.Bar at) = Some codes.BitIor
infix_code (tokens.Mark marks.Caret at) = Some codes.BitXor
infix_code (tokens.Mark marks.ShiftLeft at) = Some codes.Lshift
infix_code (tokens.Mark marks.ShiftRight at) = Some codes.Rshift
infix_code token = comparison_code token

-- what stands before two operands in parentheses: '__MIN' | '__MAX'
abbrev pub call_code : Token → Option Code
call_code (tokens.Keyword keywords.Min at) = Some codes.Min
call_code (tokens.Keyword keywords.Max at) = Some codes.Max
call_code token = None

-- what a number says of its type, and its place; a wrong number is none
abbrev pub literal_number : Token → Option (LiteralType × Span)
literal_number (tokens.Number kinds.Plain at) = Some (Plain, at)
literal_number (tokens.Number kinds.Unsigned at) = Some (Unsigned, at)
literal_number (tokens.Number kinds.Long at) = Some (Long, at)
literal_number (tokens.Number kinds.UnsignedLong at) = Some (UnsignedLong, at)
literal_number token = None
