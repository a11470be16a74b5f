use Rattle.std.proofs.Common.{◌≡◌, ℕ, eqb, ◌||◌, map, drop}
use Rattle.std.specs.List.{list_any}
use Rattle.gim_ast.specs.Functions.{phi_name}
use Rattle.gim_tables.specs.Told.{has}
use Rattle.gim_tables.proofs.standing.add_phis.Given as goal

-- the names so far, and the rest, are all
abbrev pub invariant-loop-phi : goal.invariant-loop-phi
invariant-loop-phi l = (q : ℕ) →
    has l.table q || list_any (λ y. eqb y q) (map phi_name (drop l.phi-index l.phis))
    ≡ has l.fn.table q || list_any (λ y. eqb y q) (map phi_name l.phis)
