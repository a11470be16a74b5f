use Rattle.cfg_tidy.specs.Branches.{arg_stays}
use Rattle.gim_changes.proofs.LoopLemmas.{IsFiltered}
use Rattle.cfg_tidy.proofs.branches.keep_args.Given as goal

abbrev pub invariant-loop-i : goal.invariant-loop-i
invariant-loop-i l = IsFiltered (arg_stays l.from) l.i l.initial.args l.args
