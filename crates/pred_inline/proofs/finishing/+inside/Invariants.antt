use Rattle.pred_inline.proofs.finishing.+inside.Given as goal

abbrev pub decreases-inside : goal.decreases-inside
decreases-inside l = l.conditions
