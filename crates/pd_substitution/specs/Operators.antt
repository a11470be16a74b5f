-- The operators of a tree, in the order of the text, an operation before its operands. An identifier
-- of a `for` in C text is one of them.
use Rattle.std.specs.Prelude.{List, [], ◌∷◌, ◌++◌, Option, Some, None}
use Rattle.std.specs.List.{flat_map}
use Rattle.pd_ast.specs.declared.c_text.CDecl.{CDecl}
use Rattle.pd_ast.specs.declared.c_text.CExpr.{CExpr, CExpr-F, fold-CExpr}
use Rattle.pd_ast.specs.declared.c_text.CNode.{CNode, CNode-F, fold-CNode}
use Rattle.pd_ast.specs.declared.c_text.CNode.TheOpen as c
use Rattle.pd_ast.specs.declared.pattern.OpRef.{OpRef}
use Rattle.pd_ast.specs.declared.pattern.OpRef.TheVariants as op
use Rattle.pd_ast.specs.declared.pattern.Pat.{Pat, Pat-F, fold-Pat}
use Rattle.pd_ast.specs.declared.pattern.Pat.TheOpen as pat
use Rattle.pd_ast.specs.declared.pattern.PatNode.{PatNode, PatNode-F, fold-PatNode}
use Rattle.pd_ast.specs.declared.result.Out.{Out, Out-F, fold-Out}
use Rattle.pd_ast.specs.declared.result.Out.TheOpen as out
use Rattle.pd_ast.specs.declared.result.OutNode.{OutNode, OutNode-F, fold-OutNode}
use Rattle.pd_ast.specs.declared.result.SwitchCase.{SwitchCase, SwitchCase-F, fold-SwitchCase}
use Rattle.pd_ast.specs.declared.result.Tail.{Tail, Tail-F, fold-Tail}
use Rattle.pd_ast.specs.declared.result.Tail.TheOpen as tail

-- those of several parts, in order
abbrev pub joined : List (List OpRef) → List OpRef
joined [] = []
joined (ops ∷ rest) = ops ++ joined rest

abbrev pub or_none : Option (List OpRef) → List OpRef
or_none None = []
or_none (Some ops) = ops

-- C text
abbrev pub in_c : CNode-F (List OpRef) (List OpRef) → List OpRef
in_c (c.Number n) = []
in_c (c.Truth b) = []
in_c (c.Sign unsigned) = []
in_c (c.OfCode code) = []
in_c (c.Choice name) = op.Chosen name ∷ []
in_c (c.Local name) = []
in_c (c.Capture name) = []
in_c c.Subject = []
in_c c.SubjectType = []
in_c (c.Unary name x) = x
in_c (c.Binary name x y) = x ++ y
in_c (c.Choose x y z) = x ++ y ++ z
in_c (c.CodeTest x equal constant) = x
in_c (c.Call name args) = joined args

abbrev pub in_expr : CExpr-F (List OpRef) (List OpRef) → List OpRef
in_expr layer = layer.node

abbrev pub operators_of_expr : CExpr → List OpRef
operators_of_expr = fold-CExpr (List OpRef) (List OpRef) in_c in_expr

abbrev pub operators_of_c_node : CNode → List OpRef
operators_of_c_node = fold-CNode (List OpRef) (List OpRef) in_c in_expr

abbrev pub operators_of_value : Option CExpr → List OpRef
operators_of_value None = []
operators_of_value (Some expr) = operators_of_expr expr

abbrev pub operators_of_decl : CDecl → List OpRef
operators_of_decl decl = operators_of_value decl.value

abbrev pub operators_of_decls : List CDecl → List OpRef
operators_of_decls decls = flat_map operators_of_decl decls

-- a pattern
abbrev pub in_pat : Pat-F (List OpRef) (List OpRef) → List OpRef
in_pat (pat.Hole cap) = []
in_pat (pat.Test pred cap) = []
in_pat (pat.Call name args cap) = joined args
in_pat (pat.Node ops) = ops

abbrev pub in_pat_node : PatNode-F (List OpRef) (List OpRef) → List OpRef
in_pat_node node = node.op ∷ joined node.args

abbrev pub operators_of_pattern : Pat → List OpRef
operators_of_pattern = fold-Pat (List OpRef) (List OpRef) in_pat in_pat_node

abbrev pub operators_of_pat_node : PatNode → List OpRef
operators_of_pat_node = fold-PatNode (List OpRef) (List OpRef) in_pat in_pat_node

-- a result
abbrev pub in_out : Out-F (List OpRef) (List OpRef) (List OpRef) → List OpRef
in_out (out.Hole name) = []
in_out (out.Brace expr) = operators_of_expr expr
in_out (out.Node ops) = ops
in_out (out.If when gives otherwise) = operators_of_expr when ++ gives ++ or_none otherwise
in_out (out.Switch cases otherwise) = joined cases ++ or_none otherwise
in_out (out.With decls gives) = operators_of_decls decls ++ gives

abbrev pub in_case : SwitchCase-F (List OpRef) (List OpRef) (List OpRef) → List OpRef
in_case one = operators_of_expr one.when ++ one.gives

abbrev pub in_out_node : OutNode-F (List OpRef) (List OpRef) (List OpRef) → List OpRef
in_out_node node = node.op ∷ joined node.args

abbrev pub operators_of_result : Out → List OpRef
operators_of_result = fold-Out (List OpRef) (List OpRef) (List OpRef) in_out in_out_node in_case

abbrev pub operators_of_case : SwitchCase → List OpRef
operators_of_case = fold-SwitchCase (List OpRef) (List OpRef) (List OpRef) in_out in_out_node in_case

abbrev pub operators_of_out_node : OutNode → List OpRef
operators_of_out_node = fold-OutNode (List OpRef) (List OpRef) (List OpRef) in_out in_out_node in_case

-- the end of a case of a predicate
abbrev pub in_tail : Tail-F (List OpRef) → List OpRef
in_tail tail.Done = []
in_tail (tail.If when rest) = operators_of_expr when ++ rest
in_tail (tail.With decls rest) = operators_of_decls decls ++ rest

abbrev pub operators_of_tail : Tail → List OpRef
operators_of_tail = fold-Tail (List OpRef) in_tail
