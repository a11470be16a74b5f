use Rattle.gim_names.proofs.NamesKept.{each_keeps}
use Rattle.gim_names.proofs.laws.functions_keep_names.Goals as goal

pub returns : goal.returns
returns c = each_keeps
