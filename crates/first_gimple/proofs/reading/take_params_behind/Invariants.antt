use Rattle.std.proofs.Common.{◌≡◌, ◌-◌, codes}
use Rattle.first_gimple.specs.Pieces.{tokens_of}
use Rattle.first_gimple.specs.Reading.{items_at, further_param_at, params_behind}
use Rattle.first_gimple.proofs.Loops.{with_front}
use Rattle.first_gimple.proofs.reading.take_params_behind.Given as goal

abbrev pub invariant-loop : goal.invariant-loop
invariant-loop l = with_front l.params (items_at (codes ")") further_param_at (l.count - l.counter) (tokens_of l.rest)) ≡ params_behind l.fn.first l.count (tokens_of l.text)
