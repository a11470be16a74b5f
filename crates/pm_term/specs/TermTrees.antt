-- A term of the code as a plain tree, by one fold.
use Rattle.std.specs.Prelude.{List, map}
use Rattle.pm_term.specs.Trees.{Tree, name, constant, node, Trees, trees}
use Rattle.pm_term.specs.declared.term.Term.{Term, Term-F, fold-Term}
use Rattle.pm_term.specs.declared.term.Term.TheOpen.{Name, Const, Node}

-- one layer, with plain trees in place of the operands
abbrev pub tree_step : Term-F Tree → Tree
tree_step (Name version ty) = name version ty
tree_step (Const word) = constant word
tree_step (Node code ty args) = node code ty (trees args)

-- the plain tree of a term
abbrev pub tree_of : Term → Tree
tree_of = fold-Term Tree tree_step

-- the plain trees of these terms
abbrev pub trees_of : List Term → Trees
trees_of terms = trees (map tree_of terms)
