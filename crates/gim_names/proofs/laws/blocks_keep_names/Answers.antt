use Rattle.gim_names.proofs.BlocksKeepNames.{blocks_keep}
use Rattle.gim_names.proofs.laws.blocks_keep_names.Goals as goal

pub returns : goal.returns
returns c = blocks_keep
