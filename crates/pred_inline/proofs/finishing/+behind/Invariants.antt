use Rattle.pred_inline.proofs.finishing.+behind.Given as goal

abbrev pub decreases-behind : goal.decreases-behind
decreases-behind l = l.conditions
