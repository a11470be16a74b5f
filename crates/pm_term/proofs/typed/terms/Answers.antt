use Rattle.std.proofs.Common.{arith, subst}
use Rattle.std.proofs.lemmas.Grind.{common_steps}
use Rattle.pm_term.specs.Trees.{IsWellTyped}
use Rattle.pm_term.proofs.TreeLemmas.{pushed_well_typed}
use Rattle.pm_term.proofs.typed.terms.Goals as goal

pub loop-typed-preserved : goal.loop-typed-preserved
loop-typed-preserved c =
    let one = subst IsWellTyped c.typed.view_is c.typed.invariant in
    (grind (arith, common_steps), pushed_well_typed _ _ c.loop-typed.invariant.1 one)
