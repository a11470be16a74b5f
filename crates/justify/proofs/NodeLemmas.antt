-- The nodes of a term of the code.
use Rattle.std.proofs.Common.{◌≡◌, ℕ, Bool, true, false, ◌⊎◌, inl, inr, List, sym, subst, ap, ◌∙◌}
use Rattle.std.specs.Prelude.{◌↔◌, IsTrue}
use Rattle.pm_ops.specs.declared.code.Code.{Code}
use Rattle.pm_wide.specs.Types.{Ty, Word}
use Rattle.pm_term.specs.Trees.{Tree, node}
use Rattle.pm_term.specs.TermTrees.{tree_of, trees_of}
use Rattle.pm_term.specs.TreeCodes.{tree_of-Name, tree_of-Const, tree_of-Node}
use Rattle.pm_term.specs.declared.term.Term as term
use Rattle.pm_term.specs.declared.term.Term.{Term}
use Rattle.justify.specs.DefinedByRule.{HasNode, HaveNode, IsDefinedByRule, IsDefined, AreDefined}

module _ (t : Term) (code : Code) (ty : Ty) (args : List Term) (is : t ≡ term.Node code ty args) where
  tree_is : tree_of t ≡ node code ty (trees_of args)
  tree_is = ap tree_of is ∙ tree_of-Node code ty args

  -- where a node isn't such, one below it must be
  pub node_or_below : (P : Tree → Type 0) (a b : Bool) → a ≡ false → (IsTrue a ↔ P (node code ty (trees_of args))) → (IsTrue b ↔ HaveNode P (trees_of args)) → IsTrue b ↔ HasNode P (tree_of t)
  node_or_below P a b not_own own below = subst (λ u. IsTrue b ↔ HasNode P u) (sym tree_is) ((λ h. inr (below.0 h)), back)
    where
      back : P (node code ty (trees_of args)) ⊎ HaveNode P (trees_of args) → IsTrue b
      back (inl p) = let h : IsTrue a = own.1 p in cc
      back (inr q) = below.1 q

  -- a node that is defined by rule, and its operands
  pub defined_node : (left : Tree) (a b : Bool) → a ≡ true → (IsTrue a ↔ IsDefinedByRule left code ty (trees_of args)) → (IsTrue b ↔ AreDefined left (trees_of args)) → IsTrue b ↔ IsDefined left (tree_of t)
  defined_node left a b so own below = subst (λ u. IsTrue b ↔ IsDefined left u) (sym tree_is) ((λ h. (own.0 so, below.0 h)), (λ h. below.1 h.1))

  -- and one that isn't
  pub undefined_node : (left : Tree) (a : Bool) → a ≡ false → (IsTrue a ↔ IsDefinedByRule left code ty (trees_of args)) → IsTrue a ↔ IsDefined left (tree_of t)
  undefined_node left a not_so own = subst (λ u. IsTrue a ↔ IsDefined left u) (sym tree_is) ((λ h. cc), (λ h. own.1 h.0))

-- a name, and a constant, is its own one node
pub name_node : (t : Term) (version : ℕ) (ty : Ty) → t ≡ term.Name version ty → (P : Tree → Type 0) (b : Bool) → (IsTrue b ↔ P (tree_of (term.Name version ty))) → IsTrue b ↔ HasNode P (tree_of t)
name_node t version ty is P b h =
    subst (λ u. IsTrue b ↔ HasNode P u) (sym (ap tree_of is ∙ tree_of-Name version ty)) (subst (λ u. IsTrue b ↔ P u) (tree_of-Name version ty) h)

pub constant_node : (t : Term) (word : Word) → t ≡ term.Const word → (P : Tree → Type 0) (b : Bool) → (IsTrue b ↔ P (tree_of (term.Const word))) → IsTrue b ↔ HasNode P (tree_of t)
constant_node t word is P b h =
    subst (λ u. IsTrue b ↔ HasNode P u) (sym (ap tree_of is ∙ tree_of-Const word)) (subst (λ u. IsTrue b ↔ P u) (tree_of-Const word) h)
