use Rattle.std.proofs.Common.{◌≡◌, true, subst}
use Rattle.gim_ast.specs.WellFormed.{is_well_formed}
use Rattle.gim_tables.proofs.tables.Tables.function.Goals as goal

pub returns-clause-well_formed : goal.returns-clause-well_formed
returns-clause-well_formed c = subst (λ g. is_well_formed g ≡ true) c.self.view_is c.self.invariant.0
