use Rattle.gim_ast.proofs.FuelLemmas.{more_fuel_same}
use Rattle.gim_run.proofs.laws.more_fuel_keeps_an_outcome.Goals as goal

pub returns : goal.returns
returns c = more_fuel_same
