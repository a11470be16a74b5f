use Rattle.std.proofs.Common.{sym, subst}
use Rattle.std.specs.List.{AllByRecursion}
use Rattle.gim_ast.specs.WellFormed.{IsWellFormed}
use Rattle.numbering_tests.proofs.FirstFunction.{first_is_well_formed}
use Rattle.numbering_tests.proofs.numbering.compare.Goals as goal

pub number_one-requires : goal.number_one-requires
number_one-requires g c =
    first_is_well_formed c.as_slice.result.now c.function-item.result c.in-len1.len_at_least c.function-item.is
    (subst (AllByRecursion IsWellFormed) (sym c.as_slice.ensures.value) c.in_ok-before.ensures)
