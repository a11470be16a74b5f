use Rattle.gim_terms.proofs.Constructed.{condition_full}
use Rattle.gim_terms.proofs.stmt_view.StmtView.of_if.Goals as goal

pub invariant_of-result : goal.invariant_of-result
invariant_of-result c = record {
  well_formed = c.requires.well_formed;
  full = condition_full c.args.function.now c.args.block c.in-Some.home.now c.in-If.code _ _ _ _ c.requires.well_formed c.in-Some.ensures.value c.in-If.is;
}
