use Rattle.pm_term.proofs.RefiningLaws.{each_node}
use Rattle.pm_term.proofs.laws.a_value_is_one_of_each_node.Goals as goal

pub returns : goal.returns
returns c = each_node
