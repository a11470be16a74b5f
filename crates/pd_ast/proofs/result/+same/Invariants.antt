use Rattle.std.proofs.Common.{◌≡◌, length, take}
use Rattle.pd_ast.proofs.result.+same.Given as goal

abbrev pub invariant-same_results-loop-i : goal.invariant-same_results-loop-i
invariant-same_results-loop-i l = (length l.a ≡ length l.b) × (take l.i l.a ≡ take l.i l.b)

abbrev pub invariant-same_cases-loop-i : goal.invariant-same_cases-loop-i
invariant-same_cases-loop-i l = (length l.a ≡ length l.b) × (take l.i l.a ≡ take l.i l.b)
