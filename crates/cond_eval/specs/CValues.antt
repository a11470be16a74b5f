-- The value of C text, or none: one line a form, from the values of its parts.
use Rattle.std.specs.Prelude.{Bool, not, if◌then◌else◌, List, Option, Some, None}
use Rattle.std.specs.Option.{option_map, option_and_then}
use Rattle.pd_ast.specs.declared.c_text.CExpr.{CExpr, CExpr-F, fold-CExpr}
use Rattle.pd_ast.specs.declared.c_text.CNode.{CNode, CNode-F, fold-CNode}
use Rattle.pd_ast.specs.declared.c_text.CNode.TheOpen as node
use Rattle.pd_ast.specs.declared.operator.BinaryOperator.{BinaryOperator}
use Rattle.pd_ast.specs.declared.operator.BinaryOperator.TheVariants.{Or, And}
use Rattle.pd_ast.specs.Calls.{call_named}
use Rattle.pd_ast.specs.Operators.{unary_named, binary_named}
use Rattle.pd_ast.specs.Predicates.{holds_of}
use Rattle.pm_ops.specs.declared.predicate.Pred.TheVariants.{Cst, Ssa}
use Rattle.pm_ops.specs.Names.{Name}
use Rattle.cond_eval.specs.declared.environment.CEnv.{CEnv}
use Rattle.cond_eval.specs.declared.value.CValue.{CValue}
use Rattle.cond_eval.specs.declared.value.CValue.TheVariants.{Truth, Int, TypeRef, Oper, Sign, CodeRef}
use Rattle.cond_eval.specs.Calls.{call_value}
use Rattle.cond_eval.specs.Environments.{named}
use Rattle.cond_eval.specs.Operators.{unary_value, binary_value, and_value, or_value, chosen_value}
use Rattle.cond_eval.specs.Values.{truth, of_static_type, on_two}

-- an operator on what its operands have, and by its name
abbrev pub binary_on : BinaryOperator → Option CValue → Option CValue → Option CValue
binary_on And a b = and_value a b
binary_on Or a b = or_value a b
binary_on operator a b = on_two (binary_value operator) a b

abbrev pub before : Name → Option CValue → Option CValue
before name a =
    option_and_then (λ operator. option_and_then (unary_value operator) a) (unary_named name)

abbrev pub between : Name → Option CValue → Option CValue → Option CValue
between name a b = option_and_then (λ operator. binary_on operator a b) (binary_named name)

-- a call by its name
abbrev pub called : CEnv → Name → List (Option CValue) → Option CValue
called env name args = option_and_then (λ call. call_value call env.uses args) (call_named name)

-- the operand of a capture
abbrev pub captured : CEnv → Name → Option CValue
captured env name = option_map (λ operand. Oper operand) (named env.captures name)

-- whether an operand is a constant, or a name, compared with true or false
abbrev pub code_test : Bool → Bool → CValue → Option CValue
code_test equal constant (Oper operand) =
    let is = holds_of (if constant then Cst else Ssa) operand in
    truth (if equal then is else not is)
code_test equal constant _ = None

-- the truth that a value is
abbrev pub truth_in : Option CValue → Option Bool
truth_in (Some (Truth b)) = Some b
truth_in _ = None

-- the value of a node, of whatever type, from the values of its parts
abbrev pub node_value : CEnv → CNode-F (Option CValue) (Option CValue) → Option CValue
node_value env (node.Number n) = Some (Int n)
node_value env (node.Truth b) = truth b
node_value env (node.Sign unsigned) = Some (Sign unsigned)
node_value env (node.OfCode code) = Some (CodeRef code)
node_value env (node.Choice name) = None
node_value env (node.Local name) = named env.locals name
node_value env (node.Capture name) = captured env name
node_value env node.Subject = None
node_value env node.SubjectType = Some (TypeRef env.ty)
node_value env (node.Unary name a) = before name a
node_value env (node.Binary name a b) = between name a b
node_value env (node.Choose a b c) = chosen_value a b c
node_value env (node.CodeTest a equal constant) = option_and_then (code_test equal constant) a
node_value env (node.Call name args) = called env name args

-- an expression has a value of its static type alone
abbrev pub typed_value : CExpr-F (Option CValue) (Option CValue) → Option CValue
typed_value layer = option_and_then (of_static_type layer.ty) layer.node

-- the value of an expression, and of a node
abbrev pub c_value : CEnv → CExpr → Option CValue
c_value env = fold-CExpr (Option CValue) (Option CValue) (node_value env) typed_value

abbrev pub node_value_of : CEnv → CNode → Option CValue
node_value_of env = fold-CNode (Option CValue) (Option CValue) (node_value env) typed_value
