use Rattle.std.proofs.Common.{◌≡◌, take}
use Rattle.cond_eval.proofs.environment.copied_locals.Given as goal

abbrev pub invariant-loop-name : goal.invariant-loop-name
invariant-loop-name l = l.made ≡ take l.name-index l.locals
