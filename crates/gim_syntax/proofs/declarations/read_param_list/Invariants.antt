-- What the loop of `read_param_list` keeps.
use Rattle.std.proofs.Common.{◌≤◌, length}
use Rattle.grammar.proofs.Loops.{StillRuns}
use Rattle.grammar.specs.Reading.{item_step}
use Rattle.gim_words.specs.TokenReaders.{is_comma}
use Rattle.gim_syntax.specs.Readers.{further_at, param_list_at}
use Rattle.gim_syntax.proofs.declarations.read_param_list.Given as goal

abbrev pub invariant-loop-params : goal.invariant-loop-params
invariant-loop-params l = StillRuns (item_step is_comma further_at) (param_list_at l.tokens) l.params l.rest × (length l.rest ≤ length l.tokens)

abbrev pub decreases-loop-params : goal.decreases-loop-params
decreases-loop-params l = length l.rest
