use Rattle.std.proofs.Common.{subst}
use Rattle.std.specs.Prelude.{◌↔◌, IsTrue}
use Rattle.pm_term.specs.TermTrees.{tree_of}
use Rattle.justify.specs.DefinedByRule.{IsKnownExactly}
use Rattle.justify.proofs.Results.{if_ok}
use Rattle.justify.proofs.defined.is_known_as.Goals as goal

pub returns : goal.returns
returns c =
    if_ok _ _ c.is_known_exactly.result (λ b h. subst (λ u. IsTrue b ↔ IsKnownExactly (tree_of c.args.left.now) u) c.requires.parts h) c.is_known_exactly.ensures
