-- What the loop of `read_args` keeps.
use Rattle.std.proofs.Common.{◌<◌, length}
use Rattle.grammar.proofs.Loops.{StillRuns}
use Rattle.grammar.specs.Reading.{item_step}
use Rattle.gim_words.specs.TokenReaders.{is_comma}
use Rattle.gim_statements.specs.ItemReaders.{further_arg_at, args_at}
use Rattle.gim_statements.proofs.item.read_args.Given as goal

abbrev pub invariant-loop-rest : goal.invariant-loop-rest
invariant-loop-rest l = StillRuns (item_step is_comma further_arg_at) (args_at l.tokens) l.args l.rest × (length l.rest < length l.tokens)

abbrev pub decreases-loop-rest : goal.decreases-loop-rest
decreases-loop-rest l = length l.rest
