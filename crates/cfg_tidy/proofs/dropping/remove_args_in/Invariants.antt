use Rattle.cfg_tidy.specs.Removal.{without_args}
use Rattle.gim_changes.proofs.LoopLemmas.{IsMapped}
use Rattle.cfg_tidy.proofs.dropping.remove_args_in.Given as goal

abbrev pub invariant-loop-i : goal.invariant-loop-i
invariant-loop-i l = IsMapped (without_args l.from) l.i l.i-end l.initial.blocks l.blocks
