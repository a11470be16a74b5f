-- Of a list with more than one argument there is no only one.
use Rattle.std.proofs.Common.{◌≡◌, List, [], ◌∷◌, ◌++◌, None, refl}
use Rattle.pd_ast.specs.declared.c_text.CExpr.{CExpr}
use Rattle.cond_subset.specs.Making.{only_one}

pub none_of_more : (xs : List CExpr) (x : CExpr) → (xs ≡ [] → ⊥) → only_one (xs ++ x ∷ []) ≡ None
none_of_more [] x some = absurd (some refl)
none_of_more (a ∷ []) x some = refl
none_of_more (a ∷ b ∷ xs) x some = refl
