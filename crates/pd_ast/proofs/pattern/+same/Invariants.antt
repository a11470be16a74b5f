use Rattle.std.proofs.Common.{◌≡◌, length, take}
use Rattle.pd_ast.proofs.pattern.+same.Given as goal

abbrev pub invariant-same_patterns-loop-i : goal.invariant-same_patterns-loop-i
invariant-same_patterns-loop-i l = (length l.a ≡ length l.b) × (take l.i l.a ≡ take l.i l.b)
