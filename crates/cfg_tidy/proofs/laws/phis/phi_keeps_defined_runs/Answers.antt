use Rattle.cfg_tidy.proofs.CopyPhis.{copy_keeps_runs}
use Rattle.cfg_tidy.proofs.laws.phis.phi_keeps_defined_runs.Goals as goal

pub returns : goal.returns
returns c = copy_keeps_runs
