use Rattle.std.proofs.Common.{ℕ, ◌<◌}
use Rattle.std.specs.Bool.{IsTrue}
use Rattle.gim_ast.specs.WellFormed.{is_among}
use Rattle.gim_ssa.specs.Circles.{number_of}
use Rattle.gim_ssa.specs.Reach.{next_to}
use Rattle.gim_ssa.proofs.circles.rise.Given as goal

abbrev pub invariant-loop-place : goal.invariant-loop-place
invariant-loop-place l = (p q : ℕ) → p < l.place → IsTrue (is_among q (next_to l.nexts p)) →
    number_of l.numbers q < number_of l.numbers p
