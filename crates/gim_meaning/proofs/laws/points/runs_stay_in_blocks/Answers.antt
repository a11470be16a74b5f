use Rattle.gim_meaning.proofs.Reached.{lies}
use Rattle.gim_meaning.proofs.laws.points.runs_stay_in_blocks.Goals as goal

pub returns : goal.returns
returns c = λ f args block stmts env reached. lies reached
