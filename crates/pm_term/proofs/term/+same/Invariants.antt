use Rattle.std.proofs.Common.{◌≡◌, length, take}
use Rattle.pm_term.proofs.term.+same.Given as goal

abbrev pub invariant-same_all-loop-i : goal.invariant-same_all-loop-i
invariant-same_all-loop-i l = (length l.a ≡ length l.b) × (take l.i l.a ≡ take l.i l.b)
