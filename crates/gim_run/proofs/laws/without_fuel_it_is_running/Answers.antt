use Rattle.gim_ast.proofs.FuelLemmas.{no_fuel_running}
use Rattle.gim_run.proofs.laws.without_fuel_it_is_running.Goals as goal

pub returns : goal.returns
returns c = no_fuel_running
