use Rattle.std.proofs.Common.{◌≡◌, drop}
use Rattle.gim_terms.specs.Reached.{reached}
use Rattle.gim_terms.specs.Views.{view_of}
use Rattle.gim_tables.proofs.subject.reach.Given as goal

abbrev pub invariant-loop-position : goal.invariant-loop-position
invariant-loop-position l =
    reached (view_of l.tables) l.operand (drop l.position-index l.positions) ≡ reached (view_of l.tables) l.initial.operand l.positions
