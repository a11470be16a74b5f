-- The text of functions: one definition for each part of a line, and one for each form of line.
use Rattle.std.specs.Prelude.{ℕ, ◌==◌, if◌then◌else◌, Option, Some, None, List, [], ◌∷◌, ◌++◌, codes, decimal}
use Rattle.std.specs.Fmt.{signed_decimal}
use Rattle.std.specs.List.{flat_map, join_by}
use Rattle.std.specs.Option.{option_map_or}
use Rattle.pm_ops.specs.declared.code.Code.{Code}
use Rattle.pm_ops.specs.declared.code.Code.TheVariants.{Convert, Plus, Minus, Mult, TruncDiv, TruncMod, Negate, Abs, Absu, BitAnd, BitIor, BitXor, BitNot, Lshift, Rshift, Min, Max, Eq, Ne, Lt, Le, Gt, Ge}
use Rattle.pm_wide.specs.Types.{Ty, Word, value, same_type, int_type, unsigned_int_type, long_type, unsigned_long_type}
use Rattle.pm_wide.specs.declared.operand.Operand.{Operand}
use Rattle.pm_wide.specs.declared.operand.Operand.TheVariants.{Name, Const}
use Rattle.gim_ast.specs.declared.function.Function.{Function}
use Rattle.gim_ast.specs.declared.function.Block.{Block}
use Rattle.gim_ast.specs.declared.function.Phi.{Phi}
use Rattle.gim_ast.specs.declared.function.Stmt.{Stmt}
use Rattle.gim_ast.specs.declared.function.Decl.{Decl}
use Rattle.gim_ast.specs.declared.function.NameRow.{NameRow}
use Rattle.gim_ast.specs.declared.function.Rhs.{Rhs}
use Rattle.gim_ast.specs.declared.function.Rhs.TheVariants.{Copy, Op}
use Rattle.gim_ast.specs.declared.function.End.{End}
use Rattle.gim_ast.specs.declared.function.End.TheVariants.{Goto, If, Return}
use Rattle.gim_ast.specs.Functions.{row_of}
use Rattle.gim_ast.specs.Readable.{is_initial}

-- a line: its text, ended by a line feed
abbrev pub line : List ℕ → List ℕ
line bs = bs ++ 10 ∷ []

-- parts, with a comma and a space between two
abbrev pub listed : {X : Type 0} → (X → List ℕ) → List X → List ℕ
listed part xs = join_by part (codes ", ") xs

-- ---- types

-- the name of a type. What is printed for another type than the eleven doesn't matter
abbrev pub signed_type_text : ℕ → List ℕ
signed_type_text width =
    if width == 8 then codes "signed char"
    else if width == 16 then codes "short"
    else if width == 32 then codes "int"
    else if width == 64 then codes "long"
    else codes "__int128"

abbrev pub unsigned_type_text : ℕ → List ℕ
unsigned_type_text width =
    if width == 1 then codes "_Bool"
    else if width == 8 then codes "unsigned char"
    else if width == 16 then codes "unsigned short"
    else if width == 32 then codes "unsigned int"
    else if width == 64 then codes "unsigned long"
    else codes "unsigned __int128"

unfoldable pub type_text : Ty → List ℕ
type_text t = if t.unsigned then unsigned_type_text t.width else signed_type_text t.width

-- ---- names

-- what the row of a name says; without a row there is no base, and the rest doesn't matter
unfoldable pub base_of : Function → ℕ → List ℕ
base_of f x = option_map_or (λ (row : NameRow). row.base) (row_of f x) []

unfoldable pub type_of_name : Function → ℕ → Ty
type_of_name f x = option_map_or (λ (row : NameRow). row.ty) (row_of f x) f.result

-- a name: its base, an underscore and its version
abbrev pub name_text : List ℕ → ℕ → List ℕ
name_text base version = base ++ codes "_" ++ decimal version

-- where it is assigned
abbrev pub assigned_text : Function → ℕ → List ℕ
assigned_text f x = name_text (base_of f x) x

-- where it is used: a default definition is marked
abbrev pub used_text : Function → ℕ → List ℕ
used_text f x = assigned_text f x ++ (if is_initial f x then codes "(D)" else [])

-- ---- constants

-- a constant with its type written out
abbrev pub literal_text : Word → List ℕ
literal_text w = codes "_Literal (" ++ type_text w.ty ++ codes ") " ++ signed_decimal (value w)

-- four types show by what follows the digits; any other is written out
unfoldable pub suffix_of : Ty → Option (List ℕ)
suffix_of t =
    if same_type t int_type then Some []
    else if same_type t unsigned_int_type then Some (codes "u")
    else if same_type t long_type then Some (codes "l")
    else if same_type t unsigned_long_type then Some (codes "ul")
    else None

unfoldable pub constant_text : Word → List ℕ
constant_text w = option_map_or (λ suffix. signed_decimal (value w) ++ suffix) (suffix_of w.ty) (literal_text w)

-- ---- operands

unfoldable pub operand_text : Function → Operand → List ℕ
operand_text f (Name x t) = used_text f x
operand_text f (Const w) = constant_text w

-- under a unary minus: there `-5` would be a constant, and `-_Literal (int) 5` is an operation on one
unfoldable pub negated_text : Function → Operand → List ℕ
negated_text f (Name x t) = used_text f x
negated_text f (Const w) = literal_text w

-- ---- right sides

-- what stands before the operand of an operation on one. What is printed for another operation
-- doesn't matter
unfoldable pub prefix_text : Ty → Code → List ℕ
prefix_text t Convert = codes "(" ++ type_text t ++ codes ") "
prefix_text t Negate = codes "-"
prefix_text t BitNot = codes "~"
prefix_text t Abs = codes "__ABS "
prefix_text t Absu = codes "__ABSU "
prefix_text t _ = []

abbrev pub unary_text : Function → Ty → Code → Operand → List ℕ
unary_text f t Negate a = prefix_text t Negate ++ negated_text f a
unary_text f t code a = prefix_text t code ++ operand_text f a

-- the sign between two operands. What is printed for an operation without one doesn't matter
unfoldable pub sign_text : Code → List ℕ
sign_text Plus = codes "+"
sign_text Minus = codes "-"
sign_text Mult = codes "*"
sign_text TruncDiv = codes "/"
sign_text TruncMod = codes "%"
sign_text BitAnd = codes "&"
sign_text BitIor = codes "|"
sign_text BitXor = codes "^"
sign_text Lshift = codes "<<"
sign_text Rshift = codes ">>"
sign_text Eq = codes "=="
sign_text Ne = codes "!="
sign_text Lt = codes "<"
sign_text Le = codes "<="
sign_text Gt = codes ">"
sign_text Ge = codes ">="
sign_text _ = []

-- two operands with the sign between them
abbrev pub infix_text : Function → Code → Operand → Operand → List ℕ
infix_text f code a b = operand_text f a ++ codes " " ++ sign_text code ++ codes " " ++ operand_text f b

abbrev pub binary_text : Function → Code → Operand → Operand → List ℕ
binary_text f Min a b = codes "__MIN (" ++ operand_text f a ++ codes ", " ++ operand_text f b ++ codes ")"
binary_text f Max a b = codes "__MAX (" ++ operand_text f a ++ codes ", " ++ operand_text f b ++ codes ")"
binary_text f code a b = infix_text f code a b

-- the one operation on three operands
abbrev pub ternary_text : Function → Operand → Operand → Operand → List ℕ
ternary_text f a b c = operand_text f a ++ codes " ? " ++ operand_text f b ++ codes " : " ++ operand_text f c

-- an operation whose result has that type. What is printed for another number of operands than
-- 1 to 3 doesn't matter
unfoldable pub operation_text : Function → Ty → Code → List Operand → List ℕ
operation_text f t code (a ∷ []) = unary_text f t code a
operation_text f t code (a ∷ b ∷ []) = binary_text f code a b
operation_text f t code (a ∷ b ∷ c ∷ []) = ternary_text f a b c
operation_text f t code _ = []

unfoldable pub rhs_text : Function → Ty → Rhs → List ℕ
rhs_text f t (Copy a) = operand_text f a
rhs_text f t (Op code operands) = operation_text f t code operands

-- ---- lines of a block

-- an argument of a phi: the block that it comes from, and the operand
abbrev pub phi_argument_text : Function → ℕ × Operand → List ℕ
phi_argument_text f arg = codes "__BB" ++ decimal arg.0 ++ codes ": " ++ operand_text f arg.1

unfoldable pub phi_line : Function → Phi → List ℕ
phi_line f phi = line (codes "  " ++ assigned_text f phi.name ++ codes " = __PHI (" ++ listed (phi_argument_text f) phi.args ++ codes ");")

unfoldable pub stmt_line : Function → Stmt → List ℕ
stmt_line f stmt = line (codes "  " ++ assigned_text f stmt.name ++ codes " = " ++ rhs_text f (type_of_name f stmt.name) stmt.rhs ++ codes ";")

abbrev pub jump_text : ℕ → List ℕ
jump_text to = codes "goto __BB" ++ decimal to ++ codes ";"

abbrev pub condition_line : Function → Code → Operand → Operand → List ℕ
condition_line f code left right = line (codes "  if (" ++ infix_text f code left right ++ codes ")")

-- a jump, the four lines of a condition, or a return
unfoldable pub end_lines : Function → End → List ℕ
end_lines f (Goto to) = line (codes "  " ++ jump_text to)
end_lines f (If code left right yes_to no_to) =
    condition_line f code left right
    ++ line (codes "    " ++ jump_text yes_to)
    ++ line (codes "  else")
    ++ line (codes "    " ++ jump_text no_to)
end_lines f (Return a) = line (codes "  return " ++ operand_text f a ++ codes ";")

-- an empty line, the head, and the lines
unfoldable pub block_text : Function → Block → List ℕ
block_text f block =
    line []
    ++ line (codes "  __BB(" ++ decimal block.number ++ codes "):")
    ++ flat_map (phi_line f) block.phis
    ++ flat_map (stmt_line f) block.stmts
    ++ end_lines f block.end

-- ---- functions

-- `TYPE ident`
abbrev pub declared_text : Decl → List ℕ
declared_text decl = type_text decl.ty ++ codes " " ++ decl.ident

unfoldable pub decl_line : Decl → List ℕ
decl_line decl = line (codes "  " ++ declared_text decl ++ codes ";")

-- `NAME (PARAMS)`
abbrev pub signature_line : Function → List ℕ
signature_line f = line (f.name ++ codes " (" ++ listed declared_text f.params ++ codes ")")

-- the type and the option that says what text this is, the name and the parameters, and the brace
unfoldable pub head_text : Function → List ℕ
head_text f = line (type_text f.result ++ codes " __GIMPLE (ssa)") ++ signature_line f ++ line (codes "{")

unfoldable pub function_text : Function → List ℕ
function_text f =
    head_text f
    ++ flat_map decl_line f.decls
    ++ flat_map (block_text f) f.blocks
    ++ line (codes "}")

-- the functions, with an empty line between two
unfoldable pub text : List Function → List ℕ
text functions = join_by function_text (line []) functions
