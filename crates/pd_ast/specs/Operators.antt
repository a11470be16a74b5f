-- The operators of C text, and how each is spelled.
use Rattle.std.specs.Prelude.{List, [], ◌∷◌, Option, codes, find}
use Rattle.std.specs.Str.{bytes_eq}
use Rattle.pm_ops.specs.Names.{Name}
use Rattle.pd_ast.specs.declared.operator.UnaryOperator.{UnaryOperator}
use Rattle.pd_ast.specs.declared.operator.UnaryOperator.TheVariants as unary
use Rattle.pd_ast.specs.declared.operator.BinaryOperator.{BinaryOperator}
use Rattle.pd_ast.specs.declared.operator.BinaryOperator.TheVariants as binary

-- every one before one operand, and its spelling
abbrev pub all_unary : List UnaryOperator
all_unary = unary.Not ∷ unary.Complement ∷ unary.Negate ∷ []

abbrev pub unary_name : UnaryOperator → Name
unary_name unary.Not = codes "!"
unary_name unary.Complement = codes "~"
unary_name unary.Negate = codes "-"

-- the one of this spelling; none where none has it
unfoldable pub unary_named : Name → Option UnaryOperator
unary_named name = find (λ one. bytes_eq (unary_name one) name) all_unary

-- every one between two operands, and its spelling
abbrev pub all_binary : List BinaryOperator
all_binary =
    binary.Or ∷ binary.And ∷ binary.BitOr ∷ binary.BitXor ∷ binary.BitAnd
    ∷ binary.Eq ∷ binary.Ne ∷ binary.Lt ∷ binary.Le ∷ binary.Gt ∷ binary.Ge
    ∷ binary.Plus ∷ binary.Minus ∷ binary.Times ∷ []

abbrev pub binary_name : BinaryOperator → Name
binary_name binary.Or = codes "||"
binary_name binary.And = codes "&&"
binary_name binary.BitOr = codes "|"
binary_name binary.BitXor = codes "^"
binary_name binary.BitAnd = codes "&"
binary_name binary.Eq = codes "=="
binary_name binary.Ne = codes "!="
binary_name binary.Lt = codes "<"
binary_name binary.Le = codes "<="
binary_name binary.Gt = codes ">"
binary_name binary.Ge = codes ">="
binary_name binary.Plus = codes "+"
binary_name binary.Minus = codes "-"
binary_name binary.Times = codes "*"

-- the one of this spelling; none where none has it
unfoldable pub binary_named : Name → Option BinaryOperator
binary_named name = find (λ one. bytes_eq (binary_name one) name) all_binary
