use Rattle.std.proofs.Common.{◌≡◌, length, take}
use Rattle.pd_ast.proofs.c_text.+same.Given as goal

abbrev pub invariant-same_all-loop-i : goal.invariant-same_all-loop-i
invariant-same_all-loop-i l = (length l.a ≡ length l.b) × (take l.i l.a ≡ take l.i l.b)
