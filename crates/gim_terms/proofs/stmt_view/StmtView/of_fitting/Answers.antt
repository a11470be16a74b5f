use Rattle.std.proofs.Common.{List, length, ap, ◌∙◌}
use Rattle.pm_wide.specs.declared.operand.Operand.{Operand}
use Rattle.gim_terms.proofs.Constructed.{fitting_full}
use Rattle.gim_terms.proofs.stmt_view.StmtView.of_fitting.Goals as goal

pub invariant_of-result : goal.invariant_of-result
invariant_of-result c = record {
  well_formed = c.requires.well_formed;
  full = ap (λ (xs : List Operand). length xs) c.as_slice.ensures ∙ fitting_full c.args.function.now c.args.stmt.now c.in-Op.code _ c.requires.fits c.in-Op.is;
}
