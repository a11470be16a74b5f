-- The text of results.
use Rattle.std.specs.Prelude.{ℕ, Bool, if◌then◌else◌, List, [], ◌++◌, Option, Some, None, codes}
use Rattle.std.specs.List.{flat_map}
use Rattle.pm_ops.specs.Names.{Name}
use Rattle.pd_ast.specs.declared.c_text.CDecl.{CDecl}
use Rattle.pd_ast.specs.declared.c_text.CExpr.{CExpr}
use Rattle.pd_ast.specs.declared.result.Out.{Out, Out-F, fold-Out}
use Rattle.pd_ast.specs.declared.result.Out.TheOpen as layer
use Rattle.pd_ast.specs.declared.result.OutNode.{OutNode, OutNode-F, fold-OutNode}
use Rattle.pd_ast.specs.declared.result.SwitchCase.{SwitchCase, SwitchCase-F, fold-SwitchCase}
use Rattle.row_printing.specs.CText.{c_text, capture_text, decl_text}
use Rattle.row_printing.specs.Patterns.{op_text}
use Rattle.row_printing.specs.Texts.{all_spaced, in_parentheses, maybe_spaced}

-- C text in braces
abbrev pub brace_text : CExpr → List ℕ
brace_text expr = codes "{ " ++ c_text expr ++ codes "; }"

-- `!` where the operation must become an operand
abbrev pub mark_text : Bool → List ℕ
mark_text must_fold = if must_fold then codes "!" else []

-- the name of a type, behind a colon
abbrev pub type_text : Option Name → List ℕ
type_text None = []
type_text (Some name) = codes ":" ++ name

-- `if (C) `, which stands before what it guards
abbrev pub condition_text : CExpr → List ℕ
condition_text when = codes "if (" ++ c_text when ++ codes ") "

-- declarations in braces, each with a space behind it
abbrev pub decl_before_space : CDecl → List ℕ
decl_before_space decl = decl_text decl ++ codes " "

abbrev pub block_text : List CDecl → List ℕ
block_text decls = codes "{ " ++ flat_map decl_before_space decls ++ codes "} "

-- `(name!:t OPERANDS)`
abbrev pub operation_layer : OutNode-F (List ℕ) (List ℕ) (List ℕ) → List ℕ
operation_layer node =
    in_parentheses (op_text node.op ++ mark_text node.must_fold ++ type_text node.ty ++ all_spaced node.args)

-- `(if (C) A)`
abbrev pub case_layer : SwitchCase-F (List ℕ) (List ℕ) (List ℕ) → List ℕ
case_layer one = in_parentheses (condition_text one.when ++ one.gives)

-- a leaf, `(if (C) A B)`, `(switch CASES D)` or `(with { DECLARATIONS } R)`
abbrev pub result_layer : Out-F (List ℕ) (List ℕ) (List ℕ) → List ℕ
result_layer (layer.Hole name) = capture_text name
result_layer (layer.Brace expr) = brace_text expr
result_layer (layer.Node text) = text
result_layer (layer.If when gives otherwise) =
    in_parentheses (condition_text when ++ gives ++ maybe_spaced otherwise)
result_layer (layer.Switch cases otherwise) =
    in_parentheses (codes "switch" ++ all_spaced cases ++ maybe_spaced otherwise)
result_layer (layer.With decls gives) =
    in_parentheses (codes "with " ++ block_text decls ++ gives)

-- the text of a result, of a case and of an operation
abbrev pub result_text : Out → List ℕ
result_text = fold-Out (List ℕ) (List ℕ) (List ℕ) result_layer operation_layer case_layer

abbrev pub case_text : SwitchCase → List ℕ
case_text = fold-SwitchCase (List ℕ) (List ℕ) (List ℕ) result_layer operation_layer case_layer

abbrev pub operation_text : OutNode → List ℕ
operation_text = fold-OutNode (List ℕ) (List ℕ) (List ℕ) result_layer operation_layer case_layer
