-- Of functions that are well formed the first one is.
use Rattle.std.proofs.Common.{◌≡◌, ◌≤◌, List, [], ◌∷◌, length, get_or, sym, subst, arith}
use Rattle.std.specs.List.{AllByRecursion}
use Rattle.gim_ast.specs.declared.function.Function.{Function}
use Rattle.gim_ast.specs.WellFormed.{IsWellFormed}

pub first_is_well_formed : (fs : List Function) (f : Function) → 1 ≤ length fs → f ≡ get_or fs 0 f → AllByRecursion IsWellFormed fs → IsWellFormed f
first_is_well_formed [] f some is all = absurd (omega (arith, some))
first_is_well_formed (g ∷ fs) f some is all = subst IsWellFormed (sym is) all.0
