-- What the loop of `read_further_parameters` keeps.
use Rattle.std.proofs.Common.{◌≤◌, length}
use Rattle.grammar.proofs.Loops.{StillRuns}
use Rattle.grammar.specs.Reading.{item_step, more_at}
use Rattle.pd_files.specs.FormReaders.{is_parameter, parameter_at}
use Rattle.pd_files.proofs.list.read_further_parameters.Given as goal

abbrev pub invariant-loop-rest : goal.invariant-loop-rest
invariant-loop-rest l = StillRuns (item_step is_parameter parameter_at) (more_at is_parameter parameter_at l.fn.first l.symbols) l.parameters l.rest × (length l.rest ≤ length l.symbols)

abbrev pub decreases-loop-rest : goal.decreases-loop-rest
decreases-loop-rest l = length l.rest
