-- The typed tree that an expression stands for whose names are known, or its first fault of types: a line a form.
use Rattle.std.specs.Prelude.{ℕ, Bool, true, false, List, [], ◌∷◌, ◌++◌, map, Option, Some, None, Result, Ok, Err, codes, if◌then◌else◌}
use Rattle.std.specs.Str.{bytes_eq}
use Rattle.pm_ops.specs.declared.fault.PatternFault.{PatternFault}
use Rattle.pm_ops.specs.declared.fault.PatternKind.TheVariants as kinds
use Rattle.pm_places.specs.declared.span.Span.{Span}
use Rattle.pm_places.specs.Spans.{text_of}
use Rattle.pd_ast.specs.Operators.{unary_name, binary_name}
use Rattle.pd_ast.specs.declared.c_text.CExpr.{CExpr}
use Rattle.pd_ast.specs.declared.c_text.CNode.{CNode}
use Rattle.pd_ast.specs.declared.c_text.CNode as node
use Rattle.pd_ast.specs.declared.c_text.CType.{CType}
use Rattle.pd_ast.specs.declared.c_text.CType.TheVariants as static
use Rattle.pd_ast.specs.declared.operator.BinaryOperator.{BinaryOperator}
use Rattle.pd_ast.specs.declared.operator.BinaryOperator.TheVariants as binaries
use Rattle.pd_ast.specs.declared.operator.UnaryOperator.{UnaryOperator}
use Rattle.cond_subset.specs.declared.scope.Scope.{Scope}
use Rattle.cond_subset.specs.declared.scope.Typed.{Typed}
use Rattle.cond_subset.specs.declared.tree.Callee.{Callee}
use Rattle.cond_subset.specs.Trees.{Expr, number, capture, named, parens, unary, binary, choose, call, Exprs, nil, cons}
use Rattle.cond_subset.specs.Syntax.{fault_at}
use Rattle.cond_subset.specs.Names.{callee_name, is_code_test}
use Rattle.cond_subset.specs.Signatures.{unary_type, binary_type, same_type}
use Rattle.cond_subset.specs.Types.{and_then, or_fault_at, choice_type, code_type, called_type, start_of}
use Rattle.cond_subset.specs.Leaves.{typed, type_of, number_of, capture_name, name_meaning}

-- a number, and a capture
abbrev pub number_made : List ℕ → CExpr
number_made text = typed static.Int (node.Number (number_of text))

abbrev pub capture_made : List ℕ → CExpr
capture_made text = typed static.Oper (node.Capture (capture_name text))

-- an operator or a call with its parts, or a fault at its place where their types don't fit
abbrev pub unary_node : UnaryOperator → CExpr → CNode
unary_node op a = node.Unary (unary_name op) a

abbrev pub unary_made : UnaryOperator → Span → CExpr → Result CExpr PatternFault
unary_made op at a = and_then (or_fault_at at (unary_type op (type_of a))) (λ ty. Ok (typed ty (unary_node op a)))

abbrev pub binary_node : BinaryOperator → CExpr → CExpr → CNode
binary_node op a b = node.Binary (binary_name op) a b

abbrev pub binary_made : BinaryOperator → Span → CExpr → CExpr → Result CExpr PatternFault
binary_made op at a b = and_then (or_fault_at at (binary_type op (type_of a) (type_of b))) (λ ty. Ok (typed ty (binary_node op a b)))

abbrev pub choice_node : CExpr → CExpr → CExpr → CNode
choice_node c a b = node.Choose c a b

abbrev pub choice_made : Span → CExpr → CExpr → CExpr → Result CExpr PatternFault
choice_made at c a b = and_then (or_fault_at at (choice_type (type_of c) (type_of a) (type_of b))) (λ ty. Ok (typed ty (choice_node c a b)))

abbrev pub type_of_call : List ℕ → Callee → List CExpr → Result CType PatternFault
type_of_call source callee args = or_fault_at callee.name (called_type source callee (map type_of args))

abbrev pub call_made : List ℕ → Callee → List CExpr → Result CExpr PatternFault
call_made source callee args = and_then (type_of_call source callee args) (λ ty. Ok (typed ty (node.Call (callee_name source callee) args)))

-- `TREE_CODE (x)` compared: by `==`, else by `!=`; with `INTEGER_CST`, else with `SSA_NAME`
abbrev pub is_equal : BinaryOperator → Bool
is_equal binaries.Eq = true
is_equal op = false

abbrev pub is_constant : List ℕ → Expr → Bool
is_constant source (named at) = bytes_eq (text_of source at) (codes "INTEGER_CST")
is_constant source e = false

abbrev pub only_one : List CExpr → Option CExpr
only_one (a ∷ []) = Some a
only_one args = None

abbrev pub test_made : Span → Bool → Bool → Option CExpr → Result CExpr PatternFault
test_made at equal constant None = Err (fault_at kinds.CType at)
test_made at equal constant (Some a) = and_then (or_fault_at at (code_type (type_of a))) (λ ty. Ok (typed ty (node.CodeTest a equal constant)))

abbrev mutual
  pub made : List ℕ → Scope → List Typed → Expr → Result CExpr PatternFault
  made source scope block (number at) = Ok (number_made (text_of source at))
  made source scope block (capture at) = Ok (capture_made (text_of source at))
  made source scope block (named at) = Ok (name_meaning source scope block (text_of source at))
  made source scope block (parens at a) = made source scope block a
  made source scope block (unary op at a) = and_then (made source scope block a) (unary_made op at)
  made source scope block (binary op at a b) =
      if is_code_test source op a b then test_in source scope block (is_equal op) (is_constant source b) a
      else and_then (made source scope block a) (λ left. and_then (made source scope block b) (binary_made op at left))
  made source scope block (choose at c a b) =
      and_then (made source scope block c) (λ when. and_then (made source scope block a) (λ then_part. and_then (made source scope block b) (choice_made at when then_part)))
  made source scope block (call callee args) = and_then (made_after source scope block [] args) (call_made source callee)

  -- the comparison of this `TREE_CODE (..)`, which takes one operand
  pub test_in : List ℕ → Scope → List Typed → Bool → Bool → Expr → Result CExpr PatternFault
  test_in source scope block equal constant (call callee args) = and_then (made_after source scope block [] args) (λ all. test_made callee.name equal constant (only_one all))
  test_in source scope block equal constant e = Err (fault_at kinds.CType (start_of e))

  -- arguments, after those before them
  pub made_after : List ℕ → Scope → List Typed → List CExpr → Exprs → Result (List CExpr) PatternFault
  made_after source scope block before nil = Ok before
  made_after source scope block before (cons e es) = and_then (made source scope block e) (λ one. made_after source scope block (before ++ one ∷ []) es)

-- a whole part of this type, or a fault at its first token
abbrev pub wanted_made : CType → Span → CExpr → Result CExpr PatternFault
wanted_made wanted at e = if same_type (type_of e) wanted then Ok e else Err (fault_at kinds.CType at)

abbrev pub part_made : CType → List ℕ → Scope → Expr → Result CExpr PatternFault
part_made wanted source scope e = and_then (made source scope [] e) (wanted_made wanted (start_of e))
