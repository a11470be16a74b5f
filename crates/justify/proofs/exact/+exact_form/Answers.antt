use Rattle.pm_term.specs.TermTrees.{tree_of}
use Rattle.justify.specs.DefinedByRule.{HasExactForm}
use Rattle.justify.proofs.NodeLemmas.{name_node, constant_node}
use Rattle.justify.proofs.Results.{if_ok}
use Rattle.justify.proofs.exact.+exact_form.Goals as goal

pub has_exact_form-returns-in-Name : goal.has_exact_form-returns-in-Name
has_exact_form-returns-in-Name t c =
    if_ok _ _ c.is_leaf_exactly.result (λ b. name_node c.args.left.now c.in-Name.version c.in-Name.ty c.in-Name.is (HasExactForm (tree_of c.args.term.now)) b) c.is_leaf_exactly.ensures

pub has_exact_form-returns-in-Const : goal.has_exact_form-returns-in-Const
has_exact_form-returns-in-Const t c =
    if_ok _ _ c.is_leaf_exactly-in-Const.result (λ b. constant_node c.args.left.now c.in-Const.word c.in-Const.is (HasExactForm (tree_of c.args.term.now)) b) c.is_leaf_exactly-in-Const.ensures
