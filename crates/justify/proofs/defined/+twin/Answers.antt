use Rattle.std.proofs.Common.{ap, sym, ◌∙◌}
use Rattle.pm_term.specs.TermTrees.{trees_of}
use Rattle.pm_term.specs.declared.term.Term as term
use Rattle.justify.specs.DefinedByRule.{IsTwin}
use Rattle.justify.proofs.NodeLemmas.{node_or_below}
use Rattle.justify.proofs.defined.+twin.Goals as goal

pub has_twin-returns-in_ok-have_twin-in-Node : goal.has_twin-returns-in_ok-have_twin-in-Node
has_twin-returns-in_ok-have_twin-in-Node t c =
    node_or_below c.args.left.now c.in-Node.c c.in-Node.t c.as_slice-xs.result.now (c.in-Node.is ∙ ap (term.Node c.in-Node.c c.in-Node.t) (sym c.as_slice-xs.ensures))
    (IsTwin c.args.code c.args.ty (trees_of c.args.args.now)) c.in_ok-is_twin-in-Node.field-0 c.in_ok-have_twin-in-Node.field-0 c.if-branch.false c.in_ok-is_twin-in-Node.ensures c.in_ok-have_twin-in-Node.ensures
