use Rattle.std.proofs.Common.{sym, subst}
use Rattle.gim_ast.specs.Readable.{IsValid}
use Rattle.numbering_tests.proofs.numbering.number_one.Goals as goal

pub number-requires : goal.number-requires
number-requires c = subst IsValid (sym c.in_ok-copy.ensures) c.in_ok-check.ensures.valid
