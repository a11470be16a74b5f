-- Operations of results with too many operands.
use Rattle.std.proofs.Common.{◌≡◌, ◌≤◌, arith, None, List, [], ◌∷◌, length, map, refl}
use Rattle.pd_ast.specs.declared.result.Out.{Out}
use Rattle.pattern_rows.specs.declared.caps.Caps.{Caps}
use Rattle.cond_eval.specs.declared.environment.CEnv.{CEnv}
use Rattle.result_types.specs.declared.draft.Head.{Head}
use Rattle.result_build.specs.Given.{all_in, given, on_operands}

pub many_operands : (caps : Caps) (env : CEnv) (outs : List Out) (head : Head) → 4 ≤ length outs
    → on_operands (all_in env (map (given caps) outs)) head ≡ None
many_operands caps env [] head many = absurd (omega arith)
many_operands caps env (a ∷ []) head many = absurd (omega arith)
many_operands caps env (a ∷ b ∷ []) head many = absurd (omega arith)
many_operands caps env (a ∷ b ∷ c ∷ []) head many = absurd (omega arith)
many_operands caps env (a ∷ b ∷ c ∷ d ∷ outs) head many = refl
