use Rattle.std.proofs.Common.{ℕ, ◌<◌}
use Rattle.justify.specs.Choices.{chosen, HoldsAt}
use Rattle.justify.proofs.enumeration.holds_everywhere.Given as goal

abbrev pub invariant-loop-choice : goal.invariant-loop-choice
invariant-loop-choice l = (choice : ℕ) → choice < l.choice → HoldsAt l.left l.right (chosen l.names choice)
