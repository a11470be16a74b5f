use Rattle.ring_forms.proofs.RankOrder.{no_factor}
use Rattle.ring_forms.proofs.poly.push_factor.Goals as goal

pub returns-in_default : goal.returns-in_default
returns-in_default c = no_factor c.args.nodes.now c.args.made.now c.args.run c.in_default.ensures.lookup.0
