use Rattle.cfg_tidy.proofs.CopyPhis.{copy_runs_alike}
use Rattle.cfg_tidy.proofs.laws.phis.phi_keeps_runs.Goals as goal

pub returns : goal.returns
returns c = copy_runs_alike
