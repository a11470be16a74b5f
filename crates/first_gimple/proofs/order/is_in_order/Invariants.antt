use Rattle.std.proofs.Common.{◌≡◌, ℕ, List, [], nat_eq, map, take, drop}
use Rattle.std.specs.HashSet.{contains}
use Rattle.first_gimple.specs.Rules.{has_number, name_of_line}
use Rattle.first_gimple.specs.Tests.{is_in_order}
use Rattle.first_gimple.proofs.order.is_in_order.Given as goal

abbrev pub invariant-loop-line : goal.invariant-loop-line
invariant-loop-line l = ((q : ℕ) → contains nat_eq l.known q ≡ has_number q (map name_of_line (take l.line-index l.lines)))
    × ((locals : List ℕ) → ((q : ℕ) → contains nat_eq l.declared q ≡ has_number q locals) → is_in_order locals (map name_of_line (take l.line-index l.lines)) (drop l.line-index l.lines) l.end ≡ is_in_order locals [] l.lines l.end)
