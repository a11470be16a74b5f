use Rattle.std.proofs.Common.{sym, subst}
use Rattle.gim_ast.specs.Readable.{IsValid}
use Rattle.match_top.proofs.commands.number.number_function.Goals as goal

pub number-requires : goal.number-requires
number-requires c = subst IsValid (sym c.in_ok-copy.ensures) c.requires
