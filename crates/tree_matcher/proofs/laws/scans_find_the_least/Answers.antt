use Rattle.tree_matcher.proofs.Leasts.{scan_is_least, none_above}
use Rattle.tree_matcher.proofs.laws.scans_find_the_least.Goals as goal

pub returns : goal.returns
returns c = record { least = λ holds operand_at rows after number caps is. scan_is_least holds operand_at rows after number caps is; none = λ holds operand_at rows after is place row above there. none_above holds operand_at rows after is place row above there }
