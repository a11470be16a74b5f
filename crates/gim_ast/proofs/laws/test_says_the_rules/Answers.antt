use Rattle.gim_ast.proofs.WellFormedTest.{test_is_rules}
use Rattle.gim_ast.proofs.laws.test_says_the_rules.Goals as goal

pub returns : goal.returns
returns c = test_is_rules
