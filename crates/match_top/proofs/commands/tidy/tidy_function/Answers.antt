use Rattle.std.proofs.Common.{sym, subst}
use Rattle.gim_ast.specs.Readable.{IsValid}
use Rattle.gim_ast.proofs.RisingNames.{names_rise_where_valid}
use Rattle.match_top.proofs.TidyLemmas.{tidied_rises}
use Rattle.match_top.proofs.commands.tidy.tidy_function.Goals as goal

pub returns-clause-rises : goal.returns-clause-rises
returns-clause-rises c =
    let copy = c.in_ok-copy.field-0 in
    let tidied = c.in_ok-tidied.field-0 in
    tidied_rises copy tidied.function tidied.changes c.in_ok-tidied.ensures.changes (names_rise_where_valid copy (subst IsValid (sym c.in_ok-copy.ensures) c.requires))
