use Rattle.gim_ast.proofs.FuelLemmas.{less_fuel_running}
use Rattle.gim_run.proofs.laws.less_fuel_keeps_it_running.Goals as goal

pub returns : goal.returns
returns c = less_fuel_running
