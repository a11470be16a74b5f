use Rattle.std.proofs.Common.{sym, subst}
use Rattle.std.specs.List.{AllByRecursion}
use Rattle.gim_ast.specs.WellFormed.{IsWellFormed}
use Rattle.readability_tests.proofs.FirstFunction.{first_is_well_formed}
use Rattle.readability_tests.proofs.readability.checked.Goals as goal

pub check-requires : goal.check-requires
check-requires c =
    first_is_well_formed c.as_slice.result.now c.function-item.result c.in-len1.len_at_least c.function-item.is
    (subst (AllByRecursion IsWellFormed) (sym c.as_slice.ensures.value) c.in_ok-functions.ensures)
