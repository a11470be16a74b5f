-- Trees with a substitution made at each of their leaves and operators.
use Rattle.std.specs.Prelude.{map, option_map}
use Rattle.pd_ast.specs.declared.c_text.CDecl.{CDecl}
use Rattle.pd_ast.specs.declared.c_text.CExpr.{CExpr, CExpr-F, fold-CExpr, roll-CExpr}
use Rattle.pd_ast.specs.declared.c_text.CNode.{CNode, CNode-F, fold-CNode}
use Rattle.pd_ast.specs.declared.c_text.CNode.TheOpen as c
use Rattle.pd_ast.specs.declared.c_text.CNode.TheVariants as made-c
use Rattle.pd_ast.specs.declared.pattern.Pat.{Pat, Pat-F, fold-Pat}
use Rattle.pd_ast.specs.declared.pattern.Pat.TheOpen as pat
use Rattle.pd_ast.specs.declared.pattern.Pat.TheVariants as made-pat
use Rattle.pd_ast.specs.declared.pattern.PatNode.{PatNode, PatNode-F, fold-PatNode, roll-PatNode}
use Rattle.pd_ast.specs.declared.result.Out.{Out, Out-F, fold-Out}
use Rattle.pd_ast.specs.declared.result.Out.TheOpen as out
use Rattle.pd_ast.specs.declared.result.Out.TheVariants as made-out
use Rattle.pd_ast.specs.declared.result.OutNode.{OutNode, OutNode-F, fold-OutNode, roll-OutNode}
use Rattle.pd_ast.specs.declared.result.SwitchCase.{SwitchCase, SwitchCase-F, fold-SwitchCase, roll-SwitchCase}
use Rattle.pd_ast.specs.declared.result.Tail.{Tail, Tail-F, fold-Tail}
use Rattle.pd_ast.specs.declared.result.Tail.TheOpen as tail
use Rattle.pd_ast.specs.declared.result.Tail.TheVariants as made-tail
use Rattle.pd_substitution.specs.declared.substitution.Substitution.{Substitution}
use Rattle.pd_substitution.specs.Chosen.{cap_with, choice_with, name_with, op_with, subject_with, subject_type_with}

-- C text
abbrev pub c_layer : Substitution → CNode-F CNode CExpr → CNode
c_layer by (c.Number n) = made-c.Number n
c_layer by (c.Truth b) = made-c.Truth b
c_layer by (c.Sign unsigned) = made-c.Sign unsigned
c_layer by (c.OfCode code) = made-c.OfCode code
c_layer by (c.Choice name) = choice_with by name
c_layer by (c.Local name) = made-c.Local name
c_layer by (c.Capture name) = made-c.Capture (name_with by name)
c_layer by c.Subject = subject_with by.subject
c_layer by c.SubjectType = subject_type_with by.subject
c_layer by (c.Unary name x) = made-c.Unary name x
c_layer by (c.Binary name x y) = made-c.Binary name x y
c_layer by (c.Choose x y z) = made-c.Choose x y z
c_layer by (c.CodeTest x equal constant) = made-c.CodeTest x equal constant
c_layer by (c.Call name args) = made-c.Call name args

abbrev pub expr_layer : CExpr-F CNode CExpr → CExpr
expr_layer layer = roll-CExpr (record { node = layer.node; ty = layer.ty })

abbrev pub expr_with : Substitution → CExpr → CExpr
expr_with by = fold-CExpr CNode CExpr (c_layer by) expr_layer

abbrev pub node_with : Substitution → CNode → CNode
node_with by = fold-CNode CNode CExpr (c_layer by) expr_layer

abbrev pub decl_with : Substitution → CDecl → CDecl
decl_with by decl = record {
  kind = decl.kind;
  name = decl.name;
  value = option_map (expr_with by) decl.value;
  overflow = decl.overflow;
}

-- a pattern
abbrev pub pat_layer : Substitution → Pat-F Pat PatNode → Pat
pat_layer by (pat.Hole cap) = made-pat.Hole (cap_with by cap)
pat_layer by (pat.Test pred cap) = made-pat.Test pred (option_map (cap_with by) cap)
pat_layer by (pat.Call name args cap) = made-pat.Call name args (option_map (cap_with by) cap)
pat_layer by (pat.Node node) = made-pat.Node node

abbrev pub pat_node_layer : Substitution → PatNode-F Pat PatNode → PatNode
pat_node_layer by node =
    roll-PatNode (record {
      op = op_with by node.op;
      flags = node.flags;
      cap = option_map (cap_with by) node.cap;
      args = node.args;
      at = node.at;
      len = node.len;
    })

abbrev pub pattern_with : Substitution → Pat → Pat
pattern_with by = fold-Pat Pat PatNode (pat_layer by) (pat_node_layer by)

abbrev pub pat_node_with : Substitution → PatNode → PatNode
pat_node_with by = fold-PatNode Pat PatNode (pat_layer by) (pat_node_layer by)

-- a result
abbrev pub out_layer : Substitution → Out-F Out OutNode SwitchCase → Out
out_layer by (out.Hole name) = made-out.Hole (name_with by name)
out_layer by (out.Brace expr) = made-out.Brace (expr_with by expr)
out_layer by (out.Node node) = made-out.Node node
out_layer by (out.If when gives otherwise) = made-out.If (expr_with by when) gives otherwise
out_layer by (out.Switch cases otherwise) = made-out.Switch cases otherwise
out_layer by (out.With decls gives) = made-out.With (map (decl_with by) decls) gives

abbrev pub case_layer : Substitution → SwitchCase-F Out OutNode SwitchCase → SwitchCase
case_layer by one = roll-SwitchCase (record { when = expr_with by one.when; gives = one.gives })

abbrev pub out_node_layer : Substitution → OutNode-F Out OutNode SwitchCase → OutNode
out_node_layer by node =
    roll-OutNode (record {
      op = op_with by node.op;
      must_fold = node.must_fold;
      ty = node.ty;
      args = node.args;
    })

abbrev pub result_with : Substitution → Out → Out
result_with by =
    fold-Out Out OutNode SwitchCase (out_layer by) (out_node_layer by) (case_layer by)

abbrev pub case_with : Substitution → SwitchCase → SwitchCase
case_with by =
    fold-SwitchCase Out OutNode SwitchCase (out_layer by) (out_node_layer by) (case_layer by)

abbrev pub out_node_with : Substitution → OutNode → OutNode
out_node_with by =
    fold-OutNode Out OutNode SwitchCase (out_layer by) (out_node_layer by) (case_layer by)

-- the end of a case of a predicate
abbrev pub tail_layer : Substitution → Tail-F Tail → Tail
tail_layer by tail.Done = made-tail.Done
tail_layer by (tail.If when rest) = made-tail.If (expr_with by when) rest
tail_layer by (tail.With decls rest) = made-tail.With (map (decl_with by) decls) rest

abbrev pub tail_with : Substitution → Tail → Tail
tail_with by = fold-Tail Tail (tail_layer by)
