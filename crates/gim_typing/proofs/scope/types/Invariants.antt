use Rattle.std.proofs.Common.{◌≡◌, ◌≤◌, ℕ, List, length, drop}
use Rattle.std.specs.HashMap.{get_by}
use Rattle.std.specs.Str.{bytes_eq}
use Rattle.gim_typing.specs.Declarations.{declared_type}
use Rattle.gim_typing.proofs.scope.types.Given as goal

abbrev pub invariant-loop-at : goal.invariant-loop-at
invariant-loop-at l =
    (l.at ≤ length l.decls) × ((q : List ℕ)
    → get_by (λ k. bytes_eq q k.now) l.types ≡ declared_type l.source q (drop l.at l.decls))

abbrev pub decreases-loop-at : goal.decreases-loop-at
decreases-loop-at l = l.at
