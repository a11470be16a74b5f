use Rattle.cfg_tidy.specs.Branches.{without_arg}
use Rattle.gim_changes.proofs.LoopLemmas.{IsMapped}
use Rattle.cfg_tidy.proofs.branches.remove_args.Given as goal

abbrev pub invariant-loop-i : goal.invariant-loop-i
invariant-loop-i l = IsMapped (without_arg l.from) l.i l.i-end l.initial.phis l.phis
