-- Laws of plain trees that the code's proofs cite.
use Rattle.std.proofs.Common.{◌≡◌, ◌<◌, ◌≤◌, List, [], ◌∷◌, ◌++◌, false, length, map, sym, ap, subst, refl, arith, ◌∙◌}
use Rattle.std.proofs.lemmas.List.{length-map}
use Rattle.std.specs.Prelude.{IsTrue}
use Rattle.pm_ops.specs.declared.code.Code.{Code}
use Rattle.pm_wide.specs.Types.{Ty, IsType}
use Rattle.pm_wide.specs.Typing.{well_typed_operation}
use Rattle.pm_term.specs.Trees.{Tree, trees, type_of, types_of, IsWellTyped, AreWellTyped}
use Rattle.pm_term.specs.TermTrees.{tree_of, trees_of}
use Rattle.pm_term.specs.TreeCodes.{tree_of-Node}
use Rattle.pm_term.specs.declared.term.Term as term
use Rattle.pm_term.specs.declared.term.Term.{Term}

pub types_of-trees : (ts : List Tree) → types_of (trees ts) ≡ map type_of ts
types_of-trees [] = refl
types_of-trees (t ∷ ts) = ap (λ us. type_of t ∷ us) (types_of-trees ts)

pub pushed_well_typed : (ts : List Tree) (t : Tree) → AreWellTyped (trees ts) → IsWellTyped t → AreWellTyped (trees (ts ++ t ∷ []))
pushed_well_typed [] t all one = (one, tt)
pushed_well_typed (u ∷ us) t all one = (all.0, pushed_well_typed us t all.1 one)

-- an operation over terms whose plain trees are these
pub well_typed_node : (code : Code) (ty : Ty) (terms : List Term) (args : List Tree) → IsType ty → IsTrue (well_typed_operation code ty (map type_of args)) → map tree_of terms ≡ args → AreWellTyped (trees args) → IsWellTyped (tree_of (term.Node code ty terms))
well_typed_node code ty terms args known operation is all =
    let kept = subst (λ ts. IsTrue (well_typed_operation code ty (types_of (trees ts))) × AreWellTyped (trees ts)) (sym is) (subst (λ us. IsTrue (well_typed_operation code ty us)) (sym (types_of-trees args)) operation, all) in
    subst IsWellTyped (sym (tree_of-Node code ty terms)) (known, kept.0, kept.1)

-- no operation has four operands or more
pub too_many : (code : Code) (ty : Ty) (ts : List Tree) → 4 ≤ length ts → well_typed_operation code ty (map type_of ts) ≡ false
unfolding well_typed_operation
too_many code ty [] h = refl
too_many code ty (a ∷ []) h = grind arith
too_many code ty (a ∷ b ∷ []) h = grind arith
too_many code ty (a ∷ b ∷ c ∷ []) h = grind arith
too_many code ty (a ∷ b ∷ c ∷ d ∷ ts) h = refl

-- an operation on these terms has one to three operands
pub too_few_terms : (code : Code) (ty : Ty) (ts : List Term) → length ts < 1 → well_typed_operation code ty (types_of (trees_of ts)) ≡ false
unfolding well_typed_operation
too_few_terms code ty [] h = refl
too_few_terms code ty (t ∷ ts) h = grind arith

pub too_many_terms : (code : Code) (ty : Ty) (ts : List Term) → 4 ≤ length ts → well_typed_operation code ty (types_of (trees_of ts)) ≡ false
too_many_terms code ty ts h =
    ap (well_typed_operation code ty) (types_of-trees (map tree_of ts)) ∙ too_many code ty (map tree_of ts) (omega (arith, length-map ts tree_of))
