-- The plain tree of a term forgets nothing and misses nothing; so plain trees are stored as terms of
-- the code.
use Rattle.std.specs.Prelude.{◌≡◌, ℕ, List, [], ◌∷◌, map, refl}
use Rattle.std.specs.Coded.{Coded, code_by}
use Rattle.std.proofs.Common.{sym, ap, ◌∙◌, subst}
use Rattle.pm_ops.specs.declared.code.Code.{Code}
use Rattle.pm_wide.specs.Types.{Ty, Word}
use Rattle.pm_term.specs.Trees.{Tree, name, constant, node, Trees, nil, cons}
use Rattle.pm_term.specs.TermTrees.{tree_step, tree_of, trees_of}
use Rattle.pm_term.specs.contracts.term.Term.{the_row}
use Rattle.pm_term.specs.declared.term.Term as term
use Rattle.pm_term.specs.declared.term.Term.{Term, Term-F, roll-Term, fold-roll-Term, ind-Term, map-Term}
use Rattle.pm_term.specs.declared.term.Term.TheOpen.{Name, Const, Node}
use Rattle.pm_term.specs.declared.term.Term.TheVariants.{rolls-Name, rolls-Const, rolls-Node}

-- what the fold gives at each kind of term
pub tree_of-Name : (version : ℕ) (ty : Ty) → tree_of (term.Name version ty) ≡ name version ty
tree_of-Name version ty = ap tree_of (sym (rolls-Name version ty)) ∙ fold-roll-Term Tree tree_step (Name version ty)

pub tree_of-Const : (word : Word) → tree_of (term.Const word) ≡ constant word
tree_of-Const word = ap tree_of (sym (rolls-Const word)) ∙ fold-roll-Term Tree tree_step (Const word)

pub tree_of-Node : (code : Code) (ty : Ty) (args : List Term) → tree_of (term.Node code ty args) ≡ node code ty (trees_of args)
tree_of-Node code ty args = ap tree_of (sym (rolls-Node code ty args)) ∙ fold-roll-Term Tree tree_step (Node code ty args)

abbrev mutual
  -- the term of the code that stands for a plain tree
  pub term_of : Tree → Term
  term_of (name version ty) = term.Name version ty
  term_of (constant word) = term.Const word
  term_of (node code ty args) = term.Node code ty (terms_of args)

  pub terms_of : Trees → List Term
  terms_of nil = []
  terms_of (cons t ts) = term_of t ∷ terms_of ts

abbrev GivesBack : Term → Type 0
GivesBack t = term_of (tree_of t) ≡ t

abbrev Such : Type 0
Such = (t : Term) × GivesBack t

each_back : (es : List Such) → terms_of (trees_of (map (λ e. e.0) es)) ≡ map (λ e. e.0) es
each_back [] = refl
each_back (e ∷ es) = λ i. e.1 i ∷ each_back es i

layer_back : (y : Term-F Such) → term_of (tree_step (map-Term Term Tree tree_of (map-Term Such Term (λ e. e.0) y))) ≡ roll-Term (map-Term Such Term (λ e. e.0) y)
layer_back (Name version ty) = sym (rolls-Name version ty)
layer_back (Const word) = sym (rolls-Const word)
layer_back (Node code ty es) = ap (term.Node code ty) (each_back es) ∙ sym (rolls-Node code ty (map (λ e. e.0) es))

-- the plain tree forgets nothing
pub term_of-tree_of : (t : Term) → term_of (tree_of t) ≡ t
term_of-tree_of =
    ind-Term GivesBack (λ x y is. ap term_of (fold-roll-Term Tree tree_step x)
    ∙ subst (λ z. term_of (tree_step (map-Term Term Tree tree_of z)) ≡ roll-Term z) is (layer_back y))

-- terms with one plain tree are one
pub tree_of_injective : (a b : Term) → tree_of a ≡ tree_of b → a ≡ b
tree_of_injective a b e = sym (term_of-tree_of a) ∙ ap term_of e ∙ term_of-tree_of b

mutual
  -- every plain tree stands for a term
  pub tree_of-term_of : (t : Tree) → tree_of (term_of t) ≡ t
  tree_of-term_of (name version ty) = tree_of-Name version ty
  tree_of-term_of (constant word) = tree_of-Const word
  tree_of-term_of (node code ty args) = tree_of-Node code ty (terms_of args) ∙ ap (node code ty) (trees_of-terms_of args)

  pub trees_of-terms_of : (ts : Trees) → trees_of (terms_of ts) ≡ ts
  trees_of-terms_of nil = refl
  trees_of-terms_of (cons t ts) = λ i. cons (tree_of-term_of t i) (trees_of-terms_of ts i)

-- a plain tree is stored as the term that stands for it
abbrev pub tree_code : Coded Tree
tree_code = code_by Term the_row.coded term_of tree_of tree_of-term_of
