use Rattle.gim_ast.proofs.ReadableLemmas.{unreached_is_readable}
use Rattle.gim_ssa.proofs.laws.unreached_points_read_all.Goals as goal

pub returns : goal.returns
returns c = unreached_is_readable
