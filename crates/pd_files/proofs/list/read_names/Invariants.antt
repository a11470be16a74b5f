-- What the loop of `read_names` keeps.
use Rattle.std.proofs.Common.{◌≤◌, [], length}
use Rattle.grammar.proofs.Loops.{StillRuns}
use Rattle.grammar.specs.Reading.{item_step, more_at}
use Rattle.pd_forms.specs.SymbolReaders.{identifier_at}
use Rattle.pd_files.specs.FormReaders.{is_name}
use Rattle.pd_files.proofs.list.read_names.Given as goal

abbrev pub invariant-loop-rest : goal.invariant-loop-rest
invariant-loop-rest l = StillRuns (item_step is_name identifier_at) (more_at is_name identifier_at [] l.symbols) l.names l.rest × (length l.rest ≤ length l.symbols)

abbrev pub decreases-loop-rest : goal.decreases-loop-rest
decreases-loop-rest l = length l.rest
