-- What a result gives in an environment: the leaf that its conditions choose, with operands in place
-- of captures and braces. None where a condition that is reached has no value, or is false with no
-- other part; where a declaration that is reached or a brace of the leaf has no value; and where a
-- capture, a type or an operation of the leaf isn't there.
use Rattle.std.specs.Prelude.{Bool, true, false, Option, Some, None, List, [], ◌∷◌}
use Rattle.std.specs.Option.{option_map, option_and_then}
use Rattle.pm_ops.specs.Names.{Name}
use Rattle.pm_wide.specs.Types.{Ty}
use Rattle.pd_ast.specs.declared.c_text.CExpr.{CExpr}
use Rattle.pd_ast.specs.declared.pattern.OpRef.{OpRef}
use Rattle.pd_ast.specs.declared.pattern.OpRef.TheVariants.{Fixed}
use Rattle.pd_ast.specs.declared.result.Out.{Out, Out-F, fold-Out}
use Rattle.pd_ast.specs.declared.result.Out.TheOpen as layer
use Rattle.pd_ast.specs.declared.result.OutNode.{OutNode, OutNode-F, fold-OutNode}
use Rattle.pd_ast.specs.declared.result.SwitchCase.{SwitchCase, SwitchCase-F, fold-SwitchCase}
use Rattle.pattern_rows.specs.declared.caps.Caps.{Caps}
use Rattle.cond_eval.specs.declared.environment.CEnv.{CEnv}
use Rattle.cond_eval.specs.CValues.{c_value, truth_in}
use Rattle.cond_eval.specs.Declarations.{locals_after}
use Rattle.result_types.specs.declared.draft.Head.{Head}
use Rattle.result_types.specs.Drafts.{Shape, leaf, one, two, three}
use Rattle.result_build.specs.Names.{captured, operand_in_value, written_type}

-- what stands in an environment
abbrev pub Gives : Type 0
Gives = CEnv → Option Shape

-- an operation with a code of its own
abbrev pub head_of : OpRef → Bool → Option (Option Ty) → Option Head
head_of (Fixed code) must_fold (Some ty) =
    Some (record { code = code; must_fold = must_fold; ty = ty })
head_of _ must_fold ty = None

-- on one, two or three operands that are there
abbrev pub on_one : Head → Option Shape → Option Shape
on_one head a = option_map (one head) a

abbrev pub on_two : Head → Option Shape → Option Shape → Option Shape
on_two head a b = option_and_then (λ x. option_map (two head x) b) a

abbrev pub on_three : Head → Option Shape → Option Shape → Option Shape → Option Shape
on_three head a b c =
    option_and_then (λ x. option_and_then (λ y. option_map (three head x y) c) b) a

abbrev pub on_operands : List (Option Shape) → Head → Option Shape
on_operands (a ∷ []) head = on_one head a
on_operands (a ∷ b ∷ []) head = on_two head a b
on_operands (a ∷ b ∷ c ∷ []) head = on_three head a b c
on_operands _ head = None

-- each in an environment
abbrev pub all_in : CEnv → List Gives → List (Option Shape)
all_in env [] = []
all_in env (gives ∷ others) = gives env ∷ all_in env others

abbrev pub optional_in : CEnv → Option Gives → Option Shape
optional_in env gives = option_and_then (λ (g : Gives). g env) gives

-- by a truth that may be absent
abbrev pub by_truth : Option Bool → Option Shape → Option Shape → Option Shape
by_truth None gives otherwise = None
by_truth (Some true) gives otherwise = gives
by_truth (Some false) gives otherwise = otherwise

-- what the first case gives whose condition isn't false; none where all are false
abbrev pub of_case : Option Bool → Option Shape → Option (Option Shape) → Option (Option Shape)
of_case None gives later = Some None
of_case (Some true) gives later = Some gives
of_case (Some false) gives later = later

abbrev pub first_case : CEnv → List (CExpr × Gives) → Option (Option Shape)
first_case env [] = None
first_case env (case ∷ cases) =
    of_case (truth_in (c_value env case.0)) (case.1 env) (first_case env cases)

-- and where all are false, what stands behind them
abbrev pub or_behind : Option (Option Shape) → Option Shape → Option Shape
or_behind None behind = behind
or_behind (Some gives) behind = gives

-- in an environment that may be absent
abbrev pub where_there : Option CEnv → Gives → Option Shape
where_there env gives = option_and_then gives env

-- ---- one layer, with what the parts give

abbrev pub out_step : Caps → Out-F Gives Gives (CExpr × Gives) → CEnv → Option Shape
out_step caps (layer.Hole name) env = option_map leaf (captured caps env.captures name)
out_step caps (layer.Brace expr) env = option_map leaf (operand_in_value (c_value env expr))
out_step caps (layer.Node gives) env = gives env
out_step caps (layer.If when gives otherwise) env =
    by_truth (truth_in (c_value env when)) (gives env) (optional_in env otherwise)
out_step caps (layer.Switch cases otherwise) env =
    or_behind (first_case env cases) (optional_in env otherwise)
out_step caps (layer.With decls gives) env = where_there (locals_after decls env) gives

abbrev pub node_step : OutNode-F Gives Gives (CExpr × Gives) → CEnv → Option Shape
node_step node env =
    option_and_then (on_operands (all_in env node.args))
    (head_of node.op node.must_fold (written_type env node.ty))

abbrev pub case_step : SwitchCase-F Gives Gives (CExpr × Gives) → CExpr × Gives
case_step case = (case.when, case.gives)

-- ---- what results give

abbrev pub given : Caps → Out → CEnv → Option Shape
given caps = fold-Out Gives Gives (CExpr × Gives) (out_step caps) node_step case_step

abbrev pub given_by_node : Caps → OutNode → CEnv → Option Shape
given_by_node caps = fold-OutNode Gives Gives (CExpr × Gives) (out_step caps) node_step case_step

abbrev pub given_by_case : Caps → SwitchCase → CExpr × Gives
given_by_case caps =
    fold-SwitchCase Gives Gives (CExpr × Gives) (out_step caps) node_step case_step
