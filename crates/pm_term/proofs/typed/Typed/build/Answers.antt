use Rattle.std.proofs.Common.{arith, map}
use Rattle.std.specs.Prelude.{IsTrue}
use Rattle.pm_wide.specs.Typing.{well_typed_operation}
use Rattle.pm_term.specs.Trees.{type_of}
use Rattle.pm_term.proofs.TreeLemmas.{well_typed_node}
use Rattle.pm_term.proofs.typed.Typed.build.Goals as goal

pub invariant_of-result : goal.invariant_of-result
invariant_of-result c =
    let operation : IsTrue (well_typed_operation c.args.code c.args.ty (map type_of c.args.args)) = grind arith in
    well_typed_node _ _ _ _ c.bits-known.ensures.known operation c.in_ok-args.ensures.trees c.in_ok-args.ensures.well_typed
