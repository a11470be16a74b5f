use Rattle.std.proofs.Common.{◌≡◌, map, take, length}
use Rattle.gim_ast.specs.Runs.{start_word}
use Rattle.gim_run.proofs.start.begin.Given as goal

-- so many are written
abbrev pub invariant-loop-at : goal.invariant-loop-at
invariant-loop-at l =
    (take l.at l.slots ≡ map (start_word l.function l.args) (take l.at l.rows))
    × (length l.slots ≡ length l.rows)
