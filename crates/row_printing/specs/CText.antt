-- The text of C parts: one line a form, from the texts of its parts.
use Rattle.std.specs.Prelude.{ℕ, Bool, true, false, if◌then◌else◌, List, [], ◌++◌, map, Option, Some, None, codes}
use Rattle.std.specs.Fmt.{signed_decimal}
use Rattle.std.specs.List.{flat_map}
use Rattle.pm_ops.specs.Names.{Name, code_c_name}
use Rattle.pm_ops.specs.Predicates.{pred_name}
use Rattle.pm_ops.specs.declared.predicate.Pred.TheVariants.{Cst, Ssa}
use Rattle.pd_ast.specs.Operators.{binary_name}
use Rattle.pd_ast.specs.declared.operator.BinaryOperator.TheVariants.{Eq, Ne}
use Rattle.pd_ast.specs.declared.c_text.CDecl.{CDecl}
use Rattle.pd_ast.specs.declared.c_text.CExpr.{CExpr, CExpr-F, fold-CExpr, out-CExpr}
use Rattle.pd_ast.specs.declared.c_text.CNode.{CNode, CNode-F, fold-CNode, out-CNode}
use Rattle.pd_ast.specs.declared.c_text.CNode.TheOpen as node
use Rattle.pd_ast.specs.declared.c_text.DeclKind.{DeclKind}
use Rattle.pd_ast.specs.declared.c_text.DeclKind.TheVariants as kind
use Rattle.row_printing.specs.Texts.{before_comma, in_parentheses, listed}

-- ---- expressions

-- What an expression is printed as: its text, and whether that stands in parentheses where the
-- expression is an operand.
pub record Piece : Type 0 where
  pub text : List ℕ
  pub is_compound : Bool

abbrev pub simple : List ℕ → Piece
simple text = record { text = text; is_compound = false }

abbrev pub compound : List ℕ → Piece
compound text = record { text = text; is_compound = true }

abbrev pub operand : Piece → List ℕ
operand piece = if piece.is_compound then in_parentheses piece.text else piece.text

abbrev pub texts : List Piece → List (List ℕ)
texts pieces = map (λ (piece : Piece). piece.text) pieces

abbrev pub truth_word : Bool → List ℕ
truth_word b = if b then codes "true" else codes "false"

abbrev pub sign_word : Bool → List ℕ
sign_word unsigned = if unsigned then codes "UNSIGNED" else codes "SIGNED"

-- what stands between two operands
abbrev pub infix_text : List ℕ → List ℕ
infix_text sign = codes " " ++ sign ++ codes " "

-- what an operand's code is compared with: that it is a constant by `==`, or that it isn't by `!=`,
-- and the same of a name
abbrev pub tested_text : Bool → Bool → List ℕ
tested_text equal constant =
    infix_text (binary_name (if equal then Eq else Ne)) ++ pred_name (if constant then Cst else Ssa)

-- a capture stands with one `@` in C text
abbrev pub capture_text : Name → List ℕ
capture_text name = codes "@" ++ name

abbrev pub call_text : Name → List (List ℕ) → List ℕ
call_text name args = name ++ codes " (" ++ listed args ++ codes ")"

-- what a node is printed as, from its parts. Arguments of calls have no parentheses of their own
abbrev pub node_piece : CNode-F Piece Piece → Piece
node_piece (node.Number n) = simple (signed_decimal n)
node_piece (node.Truth b) = simple (truth_word b)
node_piece (node.Sign unsigned) = simple (sign_word unsigned)
node_piece (node.OfCode code) = simple (code_c_name code)
node_piece (node.Choice name) = simple name
node_piece (node.Local name) = simple name
node_piece (node.Capture name) = simple (capture_text name)
node_piece node.Subject = simple (codes "t")
node_piece node.SubjectType = simple (codes "type")
node_piece (node.Unary name a) = simple (name ++ operand a)
node_piece (node.Binary name a b) = compound (operand a ++ infix_text name ++ operand b)
node_piece (node.Choose a b c) =
    compound (operand a ++ infix_text (codes "?") ++ operand b ++ infix_text (codes ":") ++ operand c)
node_piece (node.CodeTest a equal constant) =
    compound (codes "TREE_CODE (" ++ a.text ++ codes ")" ++ tested_text equal constant)
node_piece (node.Call name args) = simple (call_text name (texts args))

abbrev pub expr_piece : CExpr-F Piece Piece → Piece
expr_piece expr = expr.node

abbrev pub piece_of_node : CNode → Piece
piece_of_node = fold-CNode Piece Piece node_piece expr_piece

abbrev pub piece_of : CExpr → Piece
piece_of = fold-CExpr Piece Piece node_piece expr_piece

-- the text of an expression
abbrev pub c_text : CExpr → List ℕ
c_text expr = (piece_of expr).text

-- ---- declarations

-- the word of a declaration
abbrev pub kind_word : DeclKind → List ℕ
kind_word kind.Tree = codes "tree"
kind_word kind.WideInt = codes "wide_int"
kind_word kind.Truth = codes "bool"
kind_word kind.Int = codes "int"
kind_word kind.Unsigned = codes "unsigned"
kind_word kind.Sign = codes "signop"
kind_word kind.TreeCode = codes "tree_code"
kind_word kind.Overflow = codes "wi::overflow_type"

-- a call with `&flag` as its last argument
abbrev pub flagged_call_text : Name → List (List ℕ) → Name → List ℕ
flagged_call_text name args flag =
    name ++ codes " (" ++ flat_map before_comma args ++ codes "&" ++ flag ++ codes ")"

-- No value but a call has a flag: another one is printed without it
abbrev pub flagged_node_text : CExpr → CNode-F CNode CExpr → Name → List ℕ
flagged_node_text expr (node.Call name args) flag = flagged_call_text name (map c_text args) flag
flagged_node_text expr _ flag = c_text expr

abbrev pub flagged_text : CExpr → Name → List ℕ
flagged_text expr flag = flagged_node_text expr (out-CNode (out-CExpr expr).node) flag

abbrev pub with_flag : CExpr → Option Name → List ℕ
with_flag expr None = c_text expr
with_flag expr (Some flag) = flagged_text expr flag

abbrev pub value_text : Option CExpr → Option Name → List ℕ
value_text None flag = []
value_text (Some expr) flag = codes " = " ++ with_flag expr flag

-- `tree n = E;`, or `wi::overflow_type n;`
abbrev pub decl_text : CDecl → List ℕ
decl_text decl =
    kind_word decl.kind ++ codes " " ++ decl.name ++ value_text decl.value decl.overflow ++ codes ";"
