use Rattle.cfg_tidy.proofs.CopyPhis.{copy_stays_valid}
use Rattle.cfg_tidy.proofs.laws.phis.phi_keeps_validity.Goals as goal

pub returns : goal.returns
returns c = copy_stays_valid
