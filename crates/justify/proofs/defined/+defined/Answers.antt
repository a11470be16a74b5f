use Rattle.std.proofs.Common.{ap, sym, ◌∙◌}
use Rattle.pm_term.specs.TermTrees.{tree_of}
use Rattle.pm_term.specs.declared.term.Term as term
use Rattle.justify.proofs.NodeLemmas.{defined_node, undefined_node}
use Rattle.justify.proofs.defined.+defined.Goals as goal

pub is_defined-returns-in_ok-are_defined-in-Node : goal.is_defined-returns-in_ok-are_defined-in-Node
is_defined-returns-in_ok-are_defined-in-Node t c =
    defined_node c.args.term.now c.in-Node.code c.in-Node.ty c.as_slice-args.result.now (c.in-Node.is ∙ ap (term.Node c.in-Node.code c.in-Node.ty) (sym c.as_slice-args.ensures))
    (tree_of c.args.left.now) c.in_ok-is_defined_by_rule-in-Node.field-0 c.in_ok-are_defined-in-Node.field-0 c.if-branch.true c.in_ok-is_defined_by_rule-in-Node.ensures c.in_ok-are_defined-in-Node.ensures

pub is_defined-returns-else-branch : goal.is_defined-returns-else-branch
is_defined-returns-else-branch t c =
    undefined_node c.args.term.now c.in-Node.code c.in-Node.ty c.as_slice-args.result.now (c.in-Node.is ∙ ap (term.Node c.in-Node.code c.in-Node.ty) (sym c.as_slice-args.ensures))
    (tree_of c.args.left.now) c.in_ok-is_defined_by_rule-in-Node.field-0 c.if-branch.false c.in_ok-is_defined_by_rule-in-Node.ensures
