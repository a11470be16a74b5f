use Rattle.std.proofs.Common.{◌≡◌, length}
use Rattle.gim_ast.specs.Functions.{assigned}
use Rattle.gim_changes.specs.Removal.{pruned}
use Rattle.gim_tables.proofs.removal.prune.Given as goal

-- what is left to remove leads to the same function
abbrev pub invariant-loop-name : goal.invariant-loop-name
invariant-loop-name l = pruned l.function ≡ pruned l.initial.function

abbrev pub decreases-loop-name : goal.decreases-loop-name
decreases-loop-name l = length (assigned l.function)
