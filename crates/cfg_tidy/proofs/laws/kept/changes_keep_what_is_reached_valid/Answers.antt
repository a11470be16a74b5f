use Rattle.cfg_tidy.proofs.ReachedParts.{part_is_valid}
use Rattle.cfg_tidy.proofs.laws.kept.changes_keep_what_is_reached_valid.Goals as goal

pub returns : goal.returns
returns c = part_is_valid
